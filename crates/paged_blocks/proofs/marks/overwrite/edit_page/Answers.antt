use Rattle.std.proofs.Common.{◌≡◌, ◌+◌, List, length, take, drop, get_or, refl, ap, arith}
use Rattle.std.proofs.lemmas.List.{get_or_default}
use Rattle.block_list.specs.declared.block.Block.{Block}
use Rattle.block_pages.specs.declared.page_entry.PageEntry.{PageEntry}
use Rattle.paged_blocks.specs.declared.marks.edit.Edit.{Edit}
use Rattle.block_pages.specs.Splice.{spliced}
use Rattle.paged_blocks.specs.Paging.{blocks_of, flat, before}
use Rattle.paged_blocks.proofs.PagingLemmas.{no_entry}
use Rattle.paged_blocks.proofs.TouchedLemmas.{page_edited, page_some, page_row}
use Rattle.paged_blocks.proofs.RewriteLemmas.{page_flat, page_kept}
use Rattle.block_pages.proofs.RowLemmas.{row_middle}
use Rattle.paged_blocks.proofs.marks.overwrite.edit_page.Goals as goal

pub splice_page-requires-clause-index : goal.splice_page-requires-clause-index
splice_page-requires-clause-index c = omega (arith, c.requires.edit.order, c.requires.edit.last)

pub splice_page-requires-clause-order : goal.splice_page-requires-clause-order
splice_page-requires-clause-order c =
    let pages : List (List Block) = c.args.pages.now.items in
    let es : List PageEntry = c.args.entries.now.items in
    omega (arith, c.requires.edit.rising, ap (λ n. before pages es n) c.requires.stays.page)

pub splice_page-requires-clause-within : goal.splice_page-requires-clause-within
splice_page-requires-clause-within c = λ d.
    let pages : List (List Block) = c.args.pages.now.items in
    let es : List PageEntry = c.args.entries.now.items in
    omega (arith, c.requires.edit.to d, ap (λ k. length (blocks_of pages (get_or es k d))) c.requires.stays.page)

pub splice_page-requires-clause-fits : goal.splice_page-requires-clause-fits
splice_page-requires-clause-fits c = λ d.
    let i = c.requires.edit in
    omega (
      arith,
      c.requires.stays.fits d,
      (c.requires.kept.1.paging.each c.args.edit.now.first d (omega (arith, i.order, i.last))).len,
    )

pub splice_page-requires-clause-row : goal.splice_page-requires-clause-row
splice_page-requires-clause-row c = λ d.
    page_row _ _ _ d c.requires.kept.1.paging (omega (arith, c.requires.edit.order, c.requires.edit.last))

pub splice_page-requires-clause-spliced : goal.splice_page-requires-clause-spliced
splice_page-requires-clause-spliced c = λ d.
    let pages : List (List Block) = c.args.pages.now.items in
    let es : List PageEntry = c.args.entries.now.items in
    let e : Edit = c.args.edit.now in
    let i = c.requires.edit in
    let own : get_or es e.first d ≡ get_or es e.first no_entry =
    get_or_default es e.first d no_entry (omega (arith, i.order, i.last)) in
    let page : List Block = spliced (blocks_of pages (get_or es e.first no_entry)) e.from e.to e.new in
    rw own
    (row_middle (flat pages (take e.first es)) page (flat pages (drop (e.first + 1) es))
    (rw (page_edited pages es e page i c.requires.stays.page refl) c.requires.whole.tiled))

pub returns-clause-flat : goal.returns-clause-flat
returns-clause-flat c =
    let e : Edit = c.args.edit.now in
    let some = page_some _ _ e _ c.requires.edit c.requires.stays.page refl in
    page_flat _ _ _ e _ _ _ c.requires.kept.1 c.requires.edit c.requires.stays.page refl some (c.splice_page.ensures.rewritten no_entry)

pub returns-clause-kept : goal.returns-clause-kept
returns-clause-kept c = λ free h.
    let e : Edit = c.args.edit.now in
    let some = page_some _ _ e _ c.requires.edit c.requires.stays.page refl in
    page_kept _ _ _ e _ _ _ h c.requires.edit c.requires.stays refl some c.requires.whole.tiled c.requires.whole.merged
    (c.splice_page.ensures.rewritten no_entry)
