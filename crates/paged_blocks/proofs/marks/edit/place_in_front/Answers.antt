use Rattle.std.proofs.Common.{◌≡◌, ◌+◌, ◌-◌, ◌<◌, arith, ap, length}
use Rattle.paged_blocks.proofs.PagingLemmas.{no_entry, named, later_entry, before_more}
use Rattle.paged_blocks.specs.Paging.{before}
use Rattle.paged_blocks.proofs.marks.edit.place_in_front.Goals as goal

pub returns-clause-same : goal.returns-clause-same
returns-clause-same c =
    let l : 0 < c.args.entry =
    later_entry c.args.pages.now c.args.entries.now.items c.args.entry (omega (arith, c.requires.later, c.if-begun-gt1.false)) in
    let h : c.args.entry - 1 < length c.args.entries.now.items = omega (arith, c.requires.entry) in
    let n = named _ _ _ no_entry _ c.requires.paging h (rw (c.at.ensures no_entry) at c.index-pages-at.is) in
    let z : c.args.entry - 1 + 1 ≡ c.args.entry = omega (arith, l) in
    omega (
      arith,
      before_more c.args.pages.now c.args.entries.now.items (c.args.entry - 1) no_entry h,
      ap (λ k. before c.args.pages.now c.args.entries.now.items k) z,
      c.len.ensures.value,
      ap length n,
      c.if-begun-gt1.false,
      c.requires.some,
    )
