-- One block more, and what lies past the last one.
use Rattle.std.proofs.Common.{◌≡◌, ℕ, ◌+◌, List, min, get_or, length, ap, sym, ◌∙◌, subst, arith}
use Rattle.std.proofs.lemmas.List.{get_or_default}
use Rattle.block_list.specs.declared.status.Status.{Status}
use Rattle.block_list.specs.declared.status.Status.TheVariants.{NonTried, Finished}
use Rattle.map_algebra.specs.Blocks.{begin_of, end_of}
use Rattle.map_algebra.proofs.MarkLemmas.{AreMarks, put_up, more_marks, all_marks}
use Rattle.map_algebra.proofs.create.marks.Goals as goal

pub loop-number-preserved : goal.loop-number-preserved
loop-number-preserved c =
    let s = c.args.shape in
    let ks = c.args.ascending.now in
    let n = c.loop-number.number-index in
    let end = c.args.end in
    let made = c.loop-number.marks.statuses in
    let k : ℕ = get_or ks n 0 in
    let from = c.min-from.result in
    let to = c.min-to.result in
    let p = c.positions_of-positions.ensures in
    let begun : from ≡ min (begin_of s k) end = omega (arith, c.min-from.ensures, p.from) in
    let ended : to ≡ min (end_of s k) end = omega (arith, c.min-to.ensures, p.to) in
    let both : c.put-in-loop-number.new.tiles.statuses ≡ put_up (put_up made from NonTried) to Finished =
    c.in_ok-put-2.ensures.ok ∙ ap (λ (m : List Status). put_up m to Finished) c.in_ok-put.ensures.ok in
    subst (AreMarks s ks (n + 1) end) (sym both)
    (more_marks s ks n end made k from to c.requires.shape.some c.requires.order c.loop-number-test.true
    (λ d. get_or_default ks n d 0 c.loop-number-test.true) c.loop-number.invariant begun ended)

pub returns : goal.returns
returns c =
    let s = c.args.shape in
    let ks = c.args.ascending.now in
    let made = c.loop-number.marks.statuses in
    let all : c.loop-number.number-index ≡ length ks = omega arith in
    c.in_ok-put-3.ensures.ok
    ∙ all_marks s ks c.args.end made c.requires.shape.some
    (subst (λ (n : ℕ). AreMarks s ks n c.args.end made) all c.loop-number.invariant)
