use Rattle.std.proofs.Common.{◌+◌, ◌<◌, ◌∙◌, ◌++◌, List, length, take, drop, ap, arith, length-append}
use Rattle.block_list.specs.declared.block.Block.{Block}
use Rattle.paged_blocks.specs.Paging.{flat}
use Rattle.paged_blocks.proofs.PagingLemmas.{no_entry, named}
use Rattle.block_pages.proofs.RangeLemmas.{touched_blocks}
use Rattle.paged_blocks.proofs.TouchedLemmas.{touched_same}
use Rattle.paged_blocks.proofs.KeptLemmas.{entries_short}
use Rattle.paged_blocks.proofs.marks.touched_pages.touched.Goals as goal

pub copy-requires-clause-room : goal.copy-requires-clause-room
copy-requires-clause-room c =
    let e = c.requires.edit in
    omega (
      arith,
      ap length c.new-blocks.ensures,
      e.from no_entry,
      (c.requires.paging.each c.args.edit.now.first no_entry (omega (arith, e.order, e.last))).fits,
    )

pub add-requires : goal.add-requires
add-requires c =
    let e = c.requires.edit in
    omega (
      arith,
      ap length c.new-blocks.ensures,
      c.copy.ensures.len,
      e.few,
      e.from no_entry,
      (c.requires.paging.each c.args.edit.now.first no_entry (omega (arith, e.order, e.last))).fits,
    )

pub copy-requires-2-clause-room : goal.copy-requires-2-clause-room
copy-requires-2-clause-room c =
    let e = c.requires.edit in
    omega (
      arith,
      ap length c.new-blocks.ensures,
      c.copy.ensures.len,
      ap length c.add.ensures,
      length-append c.copy.new.self c.args.edit.now.new,
      c.len.ensures.fits,
      e.few,
      e.from no_entry,
      (c.requires.paging.each c.args.edit.now.first no_entry (omega (arith, e.order, e.last))).fits,
    )

pub returns-clause-same : goal.returns-clause-same
returns-clause-same c =
    let e = c.requires.edit in
    let pages : List (List Block) = c.args.pages.now in
    let there : c.args.edit.now.first < length c.args.entries.now.items = omega (arith, e.order, e.last) in
    let front = named pages _ _ no_entry _ c.requires.paging there (rw (c.at.ensures no_entry) at c.index-pages-at.is) in
    let back = named pages _ _ no_entry _ c.requires.paging e.last (rw (c.at-2.ensures no_entry) at c.index-pages-at-2.is) in
    let blocks = touched_blocks _ _ _ _ _ _ _ _ _ _ c.new-blocks.ensures c.copy.ensures.copied c.add.ensures
    c.len.ensures.value c.copy-2.ensures.copied in
    ap (λ r. flat pages (take c.args.edit.now.first c.args.entries.now.items) ++ r
    ++ flat pages (drop (c.args.edit.now.last + 1) c.args.entries.now.items)) (rw (front, back) at blocks)
    ∙ touched_same pages c.args.entries.now.items _ _ _ _ no_entry c.args.edit.now.new there (e.from no_entry) e.last (e.to no_entry)

pub overflow_add-result : goal.overflow_add-result
overflow_add-result c = omega (arith, entries_short _ _ c.requires.paging, c.requires.edit.last)
