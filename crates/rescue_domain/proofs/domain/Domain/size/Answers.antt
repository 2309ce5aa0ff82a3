use Rattle.std.proofs.Common.{◌≡◌, ℕ, List, ◌∙◌, ap, arith}
use Rattle.std.specs.List.{sum_by}
use Rattle.std.proofs.lemmas.List.{take_all}
use Rattle.std.proofs.lemmas.List.Sums.{sum_by_more}
use Rattle.std.proofs.lemmas.Option.{slice_get-get_or}
use Rattle.block_list.specs.declared.block.Range.{Range}
use Rattle.rescue_domain.specs.Parts.{AreParts}
use Rattle.rescue_domain.proofs.PartsLemmas.{no_part, part_at}
use Rattle.rescue_domain.proofs.SizeLemmas.{width, sum_before, parts_size, covered_short, short_more}
use Rattle.rescue_domain.proofs.domain.Domain.size.Goals as goal

pub overflow_sub-size : goal.overflow_sub-size
overflow_sub-size c =
    let t : AreParts 0 c.deref-part-items.result.now = rw c.deref-part-items.ensures.value c.self.invariant in
    let there = slice_get-get_or c.deref-part-items.result.now c.loop-part.part-index no_part c.loop-part-test.true in
    omega (arith, (part_at 0 _ _ _ t there).some)

pub overflow_add-size : goal.overflow_add-size
overflow_add-size c =
    let t : AreParts 0 c.deref-part-items.result.now = rw c.deref-part-items.ensures.value c.self.invariant in
    let there = slice_get-get_or c.deref-part-items.result.now c.loop-part.part-index no_part c.loop-part-test.true in
    omega (arith, sum_before 0 _ _ _ t there, (part_at 0 _ _ _ t there).some, c.loop-part.invariant.sum)

pub loop-part-preserved : goal.loop-part-preserved
loop-part-preserved c =
    let more = sum_by_more width c.deref-part-items.result.now c.loop-part.part-index no_part c.loop-part-test.true in
    record {
      sum = omega (arith, more, c.loop-part.invariant.sum);
      short = short_more _ _ no_part c.loop-part.invariant.short (omega arith);
    }

pub returns-clause-count : goal.returns-clause-count
returns-clause-count c =
    let all = ap (λ (parts : List Range). sum_by width parts) (take_all _ _ c.loop-part-test.false) in
    let e : c.loop-part.size ≡ sum_by width c.self.inside.parts.items =
    rw (← c.deref-part-items.ensures.value) (c.loop-part.invariant.sum ∙ all) in
    rw (← c.self.view_is, e) (parts_size _ c.self.invariant)

pub returns-clause-bound : goal.returns-clause-bound
returns-clause-bound c =
    let k = λ (x : ℕ). covered_short c.deref-part-items.result.now _ x c.loop-part.invariant.short c.loop-part-test.false in
    rw (← c.self.view_is) (rw c.deref-part-items.ensures.value at k)
