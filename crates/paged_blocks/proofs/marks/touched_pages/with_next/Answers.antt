use Rattle.std.proofs.Common.{◌≡◌, ◌+◌, ◌≤◌, ◌∙◌, ◌++◌, List, length, take, drop, slice_range, get_or, ap, arith}
use Rattle.block_list.specs.declared.block.Block.{Block}
use Rattle.block_pages.specs.declared.page_entry.PageEntry.{PageEntry}
use Rattle.paged_blocks.specs.Paging.{blocks_of, flat}
use Rattle.paged_blocks.proofs.PagingLemmas.{no_entry, named}
use Rattle.paged_blocks.proofs.KeptLemmas.{entries_short}
use Rattle.paged_blocks.proofs.RefillLemmas.{long_at}
use Rattle.paged_blocks.proofs.TouchedLemmas.{next_same}
use Rattle.block_pages.proofs.RangeLemmas.{range_whole}
use Rattle.paged_blocks.proofs.marks.touched_pages.with_next.Goals as goal

pub overflow_add-region : goal.overflow_add-region
overflow_add-region c = omega (arith, entries_short _ _ c.requires.paging, c.requires.there)

pub returns-clause-same : goal.returns-clause-same
returns-clause-same c =
    let pages : List (List Block) = c.args.pages.now in
    let es : List PageEntry = c.args.entries.now.items in
    let blocks : List Block = c.args.region.blocks in
    let next = named pages es _ no_entry _ c.requires.paging c.requires.there (rw (c.at.ensures no_entry) at c.index-pages-at.is) in
    let all : c.copy.new.self ≡ blocks ++ blocks_of pages (get_or es c.args.region.past no_entry) =
    c.copy.ensures.copied
    ∙ ap (λ m. blocks ++ slice_range c.index-pages-at.result 0 m) c.len.ensures.value
    ∙ ap (λ r. blocks ++ r) (range_whole c.index-pages-at.result ∙ next) in
    ap (λ r. flat pages (take c.args.region.first es) ++ r ++ flat pages (drop (c.args.region.past + 1) es)) all
    ∙ next_same pages es (flat pages (take c.args.region.first es)) blocks c.args.region.past no_entry c.requires.there

pub returns-clause-full : goal.returns-clause-full
returns-clause-full c =
    let es : List PageEntry = c.args.entries.now.items in
    let past = c.args.region.past in
    let r = c.requires.region in
    let long = long_at es past no_entry (c.requires.half.half (omega (arith, c.requires.there, r.taken (omega (arith, c.requires.there)))))
    c.requires.there in
    let next = named c.args.pages.now es _ no_entry _ c.requires.paging c.requires.there
    (rw (c.at.ensures no_entry) at c.index-pages-at.is) in
    let size : 32 ≤ length c.copy.new.self =
    omega (arith, c.copy.ensures.len, c.len.ensures.value, ap length next, (c.requires.paging.each past no_entry c.requires.there).len, long) in
    record { first = λ u. absurd (omega (arith, size)); past = λ u. absurd (omega (arith, size)) }
