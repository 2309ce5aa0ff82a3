use Rattle.std.proofs.Common.{◌≡◌, ◌∙◌, List, length, get_or, ap, sym, arith}
use Rattle.block_list.specs.declared.block.Block.{Block}
use Rattle.block_pages.specs.declared.page_entry.PageEntry.{PageEntry}
use Rattle.block_pages.specs.Splice.{spliced}
use Rattle.paged_blocks.specs.Paging.{blocks_of}
use Rattle.paged_blocks.proofs.PagingLemmas.{no_entry, named_by, entry_says}
use Rattle.paged_blocks.proofs.RewriteLemmas.{written_page}
use Rattle.block_pages.proofs.RowLemmas.{row_short}
use Rattle.block_pages.proofs.RangeLemmas.{spliced_length}
use Rattle.paged_blocks.proofs.marks.overwrite.splice_page.Goals as goal

pub entry_after-entry-requires-clause-says : goal.entry_after-entry-requires-clause-says
entry_after-entry-requires-clause-says c =
    entry_says c.args.pages.now.items c.args.entries.now.items c.args.k no_entry _ _ c.requires.each c.requires.index
    (c.at-old.ensures no_entry) c.index.ensures

pub entry_after-entry-requires-clause-within : goal.entry_after-entry-requires-clause-within
entry_after-entry-requires-clause-within c =
    let pages : List (List Block) = c.args.pages.now.items in
    let es : List PageEntry = c.args.entries.now.items in
    let own = named_by pages es c.args.k no_entry _ c.requires.each c.requires.index (rw (c.at-old.ensures no_entry) at c.index.ensures) in
    omega (arith, c.requires.within no_entry, ap length own)

pub entry_after-entry-requires-clause-fits : goal.entry_after-entry-requires-clause-fits
entry_after-entry-requires-clause-fits c =
    let pages : List (List Block) = c.args.pages.now.items in
    let es : List PageEntry = c.args.entries.now.items in
    let own = named_by pages es c.args.k no_entry _ c.requires.each c.requires.index (rw (c.at-old.ensures no_entry) at c.index.ensures) in
    omega (
      arith,
      c.requires.within no_entry,
      c.requires.fits no_entry,
      ap length own,
      spliced_length c.index.result.now c.args.new.now c.args.from c.args.to c.requires.order (omega (arith, c.requires.within no_entry, ap length own)),
    )

pub entry_after-entry-requires-clause-short : goal.entry_after-entry-requires-clause-short
entry_after-entry-requires-clause-short c =
    let pages : List (List Block) = c.args.pages.now.items in
    let es : List PageEntry = c.args.entries.now.items in
    let own = named_by pages es c.args.k no_entry _ c.requires.each c.requires.index (rw (c.at-old.ensures no_entry) at c.index.ensures) in
    rw own (row_short _ (c.requires.row no_entry))

pub entry_after-entry-requires-clause-new_short : goal.entry_after-entry-requires-clause-new_short
entry_after-entry-requires-clause-new_short c =
    let pages : List (List Block) = c.args.pages.now.items in
    let es : List PageEntry = c.args.entries.now.items in
    let own = named_by pages es c.args.k no_entry _ c.requires.each c.requires.index (rw (c.at-old.ensures no_entry) at c.index.ensures) in
    rw own (row_short _ (c.requires.spliced no_entry))

pub splice-requires-clause-within : goal.splice-requires-clause-within
splice-requires-clause-within c =
    let pages : List (List Block) = c.args.pages.now.items in
    let es : List PageEntry = c.args.entries.now.items in
    let own = named_by pages es c.args.k no_entry _ c.requires.each c.requires.index (rw (c.at-old.ensures no_entry) at c.index_mut.ensures.value) in
    omega (arith, c.requires.within no_entry, ap length own)

pub splice-requires-clause-fits : goal.splice-requires-clause-fits
splice-requires-clause-fits c =
    let pages : List (List Block) = c.args.pages.now.items in
    let es : List PageEntry = c.args.entries.now.items in
    let own = named_by pages es c.args.k no_entry _ c.requires.each c.requires.index (rw (c.at-old.ensures no_entry) at c.index_mut.ensures.value) in
    omega (arith, c.requires.fits no_entry, ap length own)

pub splice-requires-clause-row : goal.splice-requires-clause-row
splice-requires-clause-row c =
    let pages : List (List Block) = c.args.pages.now.items in
    let es : List PageEntry = c.args.entries.now.items in
    let own = named_by pages es c.args.k no_entry _ c.requires.each c.requires.index (rw (c.at-old.ensures no_entry) at c.index_mut.ensures.value) in
    rw own (c.requires.spliced no_entry)

pub returns-clause-rewritten : goal.returns-clause-rewritten
returns-clause-rewritten c = λ d.
    let pages : List (List Block) = c.args.pages.now.items in
    let es : List PageEntry = c.args.entries.now.items in
    let over : List Block → List Block = λ page. spliced page c.args.from c.args.to c.args.new.now in
    let read = named_by pages es c.args.k d _ c.requires.each c.requires.index (rw (c.at-old.ensures d) at c.index.ensures) in
    let own = named_by pages es c.args.k d _ c.requires.each c.requires.index (rw (c.at-old.ensures d) at c.index_mut.ensures.value) in
    let made : c.splice.new.self ≡ over (blocks_of pages (get_or es c.args.k d)) = c.splice.ensures ∙ ap over own in
    rw (sym made)
    (written_page pages es c.args.k c.at-old.result c.entry_after-entry.result _ _ _ c.at-old.ensures c.entry_after-entry.ensures.number
    c.entry_after-entry.ensures.says (made ∙ sym (ap over read)) c.put.ensures.items)
