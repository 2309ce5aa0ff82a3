use Rattle.std.proofs.Common.{◌+◌, arith, ap, length}
use Rattle.paged_blocks.proofs.PagingLemmas.{no_entry, named, next_entry, before_more}
use Rattle.paged_blocks.proofs.KeptLemmas.{entries_short}
use Rattle.paged_blocks.proofs.marks.edit.place_after.Goals as goal

pub overflow_add-result : goal.overflow_add-result
overflow_add-result c = omega (arith, entries_short _ _ c.requires.paging, c.requires.entry)

pub returns-else-begun-len-clause-entry : goal.returns-else-begun-len-clause-entry
returns-else-begun-len-clause-entry c =
    let n = named _ _ _ no_entry _ c.requires.paging c.requires.entry (rw (c.at.ensures no_entry) at c.index-pages-at.is) in
    next_entry _ _ _ c.args.begun no_entry c.requires.entry (omega (arith, c.len.ensures.value, ap length n, c.if-begun-len.false))
    c.requires.later

pub returns-else-begun-len-clause-index : goal.returns-else-begun-len-clause-index
returns-else-begun-len-clause-index c = λ d.
    (c.requires.paging.each (c.args.entry + 1) d (returns-else-begun-len-clause-entry c)).some

pub returns-else-begun-len-clause-same : goal.returns-else-begun-len-clause-same
returns-else-begun-len-clause-same c =
    let n = named _ _ _ no_entry _ c.requires.paging c.requires.entry (rw (c.at.ensures no_entry) at c.index-pages-at.is) in
    omega (
      arith,
      before_more c.args.pages.now c.args.entries.now.items c.args.entry no_entry c.requires.entry,
      c.len.ensures.value,
      ap length n,
      c.if-begun-len.false,
      c.requires.begun no_entry,
    )
