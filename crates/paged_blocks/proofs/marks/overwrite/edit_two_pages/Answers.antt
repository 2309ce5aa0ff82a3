use Rattle.std.proofs.Common.{List, length, arith, ap}
use Rattle.block_list.specs.declared.block.Block.{Block}
use Rattle.block_pages.specs.declared.page_entry.PageEntry.{PageEntry}
use Rattle.paged_blocks.specs.declared.marks.edit.Edit.{Edit}
use Rattle.paged_blocks.proofs.PagingLemmas.{no_entry}
use Rattle.paged_blocks.proofs.TouchedLemmas.{page_row}
use Rattle.paged_blocks.proofs.TwoPagesLemmas.{split_of, back_len, front_long, first_written, two_rows, two_done, two_kept}
use Rattle.paged_blocks.proofs.marks.overwrite.edit_two_pages.Goals as goal

pub splice_page-requires-clause-row : goal.splice_page-requires-clause-row
splice_page-requires-clause-row c = λ d.
    page_row _ _ _ d c.requires.kept.1.paging (omega (arith, c.requires.edit.order, c.requires.edit.last))

pub splice_page-requires-clause-spliced : goal.splice_page-requires-clause-spliced
splice_page-requires-clause-spliced c = λ d.
    let pages : List (List Block) = c.args.pages.now.items in
    let es : List PageEntry = c.args.entries.now.items in
    let e : Edit = c.args.edit.now in
    let i = c.requires.edit in
    let s = c.requires.stays in
    let k = c.requires.kept.1 in
    let q = split_of es e c.at-len.result _ _ _ s c.at-len.ensures c.part-front.ensures c.part-back.ensures c.len.ensures.value in
    (two_rows pages es e _ _ _ d k.paging i q c.requires.whole.tiled).0

pub splice_page-requires-2-clause-each : goal.splice_page-requires-2-clause-each
splice_page-requires-2-clause-each c =
    let pages : List (List Block) = c.args.pages.now.items in
    let es : List PageEntry = c.args.entries.now.items in
    let e : Edit = c.args.edit.now in
    let i = c.requires.edit in
    let s = c.requires.stays in
    let k = c.requires.kept.1 in
    let q = split_of es e c.at-len.result _ _ _ s c.at-len.ensures c.part-front.ensures c.part-back.ensures c.len.ensures.value in
    let some = front_long pages es e _ _ _ k.paging (omega (arith, i.order, i.last)) s q in
    let w = first_written pages es c.requires.kept.0 e _ _ _ k i s some (c.splice_page.ensures.rewritten no_entry) in
    w.0

pub splice_page-requires-2-clause-within : goal.splice_page-requires-2-clause-within
splice_page-requires-2-clause-within c = λ d.
    let pages : List (List Block) = c.args.pages.now.items in
    let es : List PageEntry = c.args.entries.now.items in
    let e : Edit = c.args.edit.now in
    let i = c.requires.edit in
    let s = c.requires.stays in
    let k = c.requires.kept.1 in
    let q = split_of es e c.at-len.result _ _ _ s c.at-len.ensures c.part-front.ensures c.part-back.ensures c.len.ensures.value in
    let some = front_long pages es e _ _ _ k.paging (omega (arith, i.order, i.last)) s q in
    let w = first_written pages es c.requires.kept.0 e _ _ _ k i s some (c.splice_page.ensures.rewritten no_entry) in
    omega (arith, i.to no_entry, ap length (w.2 d))

pub splice_page-requires-2-clause-some : goal.splice_page-requires-2-clause-some
splice_page-requires-2-clause-some c =
    let pages : List (List Block) = c.args.pages.now.items in
    let es : List PageEntry = c.args.entries.now.items in
    let e : Edit = c.args.edit.now in
    let i = c.requires.edit in
    let s = c.requires.stays in
    let k = c.requires.kept.1 in
    let q = split_of es e c.at-len.result _ _ _ s c.at-len.ensures c.part-front.ensures c.part-back.ensures c.len.ensures.value in
    omega (arith, back_len es e _ _ _ s q, s.back)

pub splice_page-requires-2-clause-fits : goal.splice_page-requires-2-clause-fits
splice_page-requires-2-clause-fits c = λ d.
    let pages : List (List Block) = c.args.pages.now.items in
    let es : List PageEntry = c.args.entries.now.items in
    let e : Edit = c.args.edit.now in
    let i = c.requires.edit in
    let s = c.requires.stays in
    let k = c.requires.kept.1 in
    let q = split_of es e c.at-len.result _ _ _ s c.at-len.ensures c.part-front.ensures c.part-back.ensures c.len.ensures.value in
    let some = front_long pages es e _ _ _ k.paging (omega (arith, i.order, i.last)) s q in
    let w = first_written pages es c.requires.kept.0 e _ _ _ k i s some (c.splice_page.ensures.rewritten no_entry) in
    omega (arith, back_len es e _ _ _ s q, ap length (w.2 d), (k.paging.each e.last no_entry i.last).fits)

pub splice_page-requires-2-clause-row : goal.splice_page-requires-2-clause-row
splice_page-requires-2-clause-row c = λ d.
    let pages : List (List Block) = c.args.pages.now.items in
    let es : List PageEntry = c.args.entries.now.items in
    let e : Edit = c.args.edit.now in
    let i = c.requires.edit in
    let s = c.requires.stays in
    let k = c.requires.kept.1 in
    let q = split_of es e c.at-len.result _ _ _ s c.at-len.ensures c.part-front.ensures c.part-back.ensures c.len.ensures.value in
    let some = front_long pages es e _ _ _ k.paging (omega (arith, i.order, i.last)) s q in
    let w = first_written pages es c.requires.kept.0 e _ _ _ k i s some (c.splice_page.ensures.rewritten no_entry) in
    rw (w.2 d) (page_row pages es e.last no_entry k.paging i.last)

pub splice_page-requires-2-clause-spliced : goal.splice_page-requires-2-clause-spliced
splice_page-requires-2-clause-spliced c = λ d.
    let pages : List (List Block) = c.args.pages.now.items in
    let es : List PageEntry = c.args.entries.now.items in
    let e : Edit = c.args.edit.now in
    let i = c.requires.edit in
    let s = c.requires.stays in
    let k = c.requires.kept.1 in
    let q = split_of es e c.at-len.result _ _ _ s c.at-len.ensures c.part-front.ensures c.part-back.ensures c.len.ensures.value in
    let some = front_long pages es e _ _ _ k.paging (omega (arith, i.order, i.last)) s q in
    let w = first_written pages es c.requires.kept.0 e _ _ _ k i s some (c.splice_page.ensures.rewritten no_entry) in
    rw (w.2 d) ((two_rows pages es e _ _ _ no_entry k.paging i q c.requires.whole.tiled).1)

pub returns-clause-flat : goal.returns-clause-flat
returns-clause-flat c =
    let pages : List (List Block) = c.args.pages.now.items in
    let es : List PageEntry = c.args.entries.now.items in
    let e : Edit = c.args.edit.now in
    let i = c.requires.edit in
    let s = c.requires.stays in
    let k = c.requires.kept.1 in
    let q = split_of es e c.at-len.result _ _ _ s c.at-len.ensures c.part-front.ensures c.part-back.ensures c.len.ensures.value in
    (two_done pages es c.requires.kept.0 e _ _ _ _ _ _ _ k i s q (c.splice_page.ensures.rewritten no_entry)
    (c.splice_page-2.ensures.rewritten no_entry)).flat_is

pub returns-clause-kept : goal.returns-clause-kept
returns-clause-kept c = λ free h.
    let pages : List (List Block) = c.args.pages.now.items in
    let es : List PageEntry = c.args.entries.now.items in
    let e : Edit = c.args.edit.now in
    let i = c.requires.edit in
    let s = c.requires.stays in
    let q = split_of es e c.at-len.result _ _ _ s c.at-len.ensures c.part-front.ensures c.part-back.ensures c.len.ensures.value in
    two_kept _ _ _ e _ _ c.requires.whole.tiled c.requires.whole.merged
    (two_done pages es free e _ _ _ _ _ _ _ h i s q (c.splice_page.ensures.rewritten no_entry)
    (c.splice_page-2.ensures.rewritten no_entry))
