use Rattle.std.proofs.Common.{◌≡◌, ℕ, ◌+◌, ◌-◌, ◌<◌, ◌≤◌, ◌∙◌, ◌++◌, List, length, take, drop, ap, arith, append_assoc, ⊎_elim}
use Rattle.std.specs.List.{flat_map}
use Rattle.block_list.specs.declared.block.Block.{Block}
use Rattle.block_list.specs.Stretches.{covered}
use Rattle.std.proofs.lemmas.Bool.{cases_lt}
use Rattle.std.proofs.lemmas.List.{take_all}
use Rattle.std.proofs.lemmas.List.Edits.{length-between}
use Rattle.paged_blocks.specs.Paging.{flat}
use Rattle.block_pages.proofs.RangeLemmas.{part_short, take_on}
use Rattle.paged_blocks.proofs.RefillLemmas.{share}
use Rattle.paged_blocks.proofs.TouchedLemmas.{flat_parts}
use Rattle.block_pages.proofs.RowLemmas.{row_range}
use Rattle.paged_blocks.proofs.marks.refill.deal.Goals as goal

pub place-requires-clause-short : goal.place-requires-clause-short
place-requires-clause-short c =
    omega (
      arith,
      ap (λ r. length (flat_map covered r)) c.page.ensures,
      part_short c.args.blocks.now c.loop-made.made (c.loop-made.made + c.page_len.result),
      c.requires.short,
    )

pub loop-made-preserved : goal.loop-made-preserved
loop-made-preserved c =
    let i = c.loop-made.invariant in
    let m = c.page_len.ensures in
    let l = c.len-len.ensures.value in
    let there : c.loop-made.made < length c.args.blocks.now = omega (arith, c.loop-made-test.true, l) in
    let left : ℕ = c.len-len.result - c.loop-made.made in
    let parts = share left c.page_len.result m.all m.half m.rest in
    let to : ℕ = c.loop-made.made + c.page_len.result in
    let front : List Block = flat c.args.pages.now.items (take c.args.first c.args.entries.now.items) in
    let within : to ≤ length c.args.blocks.now = omega (arith, m.within, l, c.loop-made-test.true) in
    let size : length c.page.result ≡ c.page_len.result =
    ap length c.page.ensures ∙ length-between c.args.blocks.now c.loop-made.made to within ∙ omega arith in
    record {
      filed = c.place.ensures.filed;
      index = omega (arith, i.index, c.place.ensures.entries);
      within = within;
      front = c.place.ensures.front
          ∙ ap (λ r. r ++ c.page.result) i.front
          ∙ append_assoc front (take c.loop-made.made c.args.blocks.now) c.page.result
          ∙ ap (λ r. front ++ (take c.loop-made.made c.args.blocks.now ++ r)) c.page.ensures
          ∙ ap (λ r. front ++ r) (take_on c.args.blocks.now c.loop-made.made to (omega arith));
      back = c.place.ensures.back ∙ i.back;
      half = λ h. c.place.ensures.half (⊎_elim
          (λ (v : c.page_len.result ≡ left). omega (arith, size, v, i.rest h there, l))
          (λ (v : (32 ≤ c.page_len.result) × (c.page_len.result + 32 ≤ left)). omega (arith, size, v.0)) parts)
          ∙ i.half h;
      rest = λ h u. ⊎_elim (λ (v : c.page_len.result ≡ left). absurd (omega (arith, v, l)))
          (λ (v : (32 ≤ c.page_len.result) × (c.page_len.result + 32 ≤ left)). omega (arith, v.1, l)) parts;
      none = λ h. absurd (omega (arith, m.some));
      one = λ h u. omega (arith, m.all (omega (arith, l)), l, there);
      more = λ h u. ⊎_elim (λ (v : 0 < c.loop-made.made). absurd (omega (arith, i.one h v, there)))
          (λ (v : c.loop-made.made ≤ 0). omega (arith, i.none (omega arith), c.place.ensures.entries))
          (cases_lt 0 c.loop-made.made);
      full = λ u. omega (arith, m.full (omega (arith, l)), i.full (omega (arith, m.fits)), c.place.ensures.entries);
      less = λ u. ⊎_elim (λ (v : 64 < left). omega (arith, l, i.full (omega (arith, v, l)), c.place.ensures.entries))
          (λ (v : left ≤ 64). absurd (omega (arith, m.all v, l))) (cases_lt 64 left);
      few = omega (arith, i.less there, c.place.ensures.entries);
      pages = c.place.ensures.pages ∙ i.pages;
      capacity = omega (arith, c.place.ensures.capacity, i.capacity);
      free = c.place.ensures.free ∙ i.free;
    }

pub returns-clause-flat : goal.returns-clause-flat
returns-clause-flat c =
    let i = c.loop-made.invariant in
    flat_parts c.loop-made.pages.items c.loop-made.entries.items c.loop-made.k
    ∙ ap (λ r. r ++ flat c.loop-made.pages.items (drop c.loop-made.k c.loop-made.entries.items)) (i.front
    ∙ ap (λ r. flat c.args.pages.now.items (take c.args.first c.args.entries.now.items) ++ r)
    (take_all c.loop-made.made c.args.blocks.now (omega (arith, c.loop-made-test.false, c.len-len.ensures.value))))
    ∙ ap (λ r. flat c.args.pages.now.items (take c.args.first c.args.entries.now.items) ++ c.args.blocks.now ++ r) i.back

pub page-requires-clause-row : goal.page-requires-clause-row
page-requires-clause-row c = row_range _ _ _ c.requires.row
