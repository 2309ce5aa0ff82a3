use Rattle.std.proofs.Common.{◌-◌, ◌<◌, ◌≤◌, ◌∙◌, ◌++◌, List, length, take, drop, ap, arith, length-append}
use Rattle.block_list.specs.declared.block.Block.{Block}
use Rattle.block_pages.specs.declared.page_entry.PageEntry.{PageEntry}
use Rattle.paged_blocks.specs.Paging.{flat}
use Rattle.paged_blocks.proofs.PagingLemmas.{no_entry, named}
use Rattle.paged_blocks.proofs.RefillLemmas.{long_at}
use Rattle.paged_blocks.proofs.TouchedLemmas.{former_same, former_blocks}
use Rattle.paged_blocks.proofs.marks.touched_pages.with_former.Goals as goal

pub returns-clause-same : goal.returns-clause-same
returns-clause-same c =
    let pages : List (List Block) = c.args.pages.now in
    let es : List PageEntry = c.args.entries.now.items in
    let blocks : List Block = c.args.region.blocks in
    let r = c.requires.region in
    let there : c.args.region.first - 1 < length es = omega (arith, r.order, r.within, c.requires.there) in
    let former = named pages es _ no_entry _ c.requires.paging there (rw (c.at.ensures no_entry) at c.index-pages-at.is) in
    let all = former_blocks _ _ _ _ _ _ c.new-blocks.ensures c.copy.ensures.copied c.len.ensures.value c.append.ensures in
    ap (λ x. flat pages (take (c.args.region.first - 1) es) ++ x ++ flat pages (drop c.args.region.past es))
    (all ∙ ap (λ x. x ++ blocks) former)
    ∙ former_same pages es (flat pages (drop c.args.region.past es)) blocks (c.args.region.first - 1) c.args.region.first no_entry
    (omega (arith, c.requires.there)) there

pub returns-clause-full : goal.returns-clause-full
returns-clause-full c =
    let es : List PageEntry = c.args.entries.now.items in
    let r = c.requires.region in
    let first = c.args.region.first - 1 in
    let there : first < length es = omega (arith, r.order, r.within, c.requires.there) in
    let long = long_at es first no_entry (c.requires.half.half (omega (arith, c.requires.there, r.within, r.taken (omega (arith, there))))) there in
    let former = named c.args.pages.now es _ no_entry _ c.requires.paging there (rw (c.at.ensures no_entry) at c.index-pages-at.is) in
    let size : 32 ≤ length c.append.new.self =
    omega (
      arith,
      ap length c.new-blocks.ensures,
      ap length c.append.ensures,
      length-append c.copy.new.self c.args.region.blocks,
      c.copy.ensures.len,
      c.len.ensures.value,
      ap length former,
      (c.requires.paging.each first no_entry there).len,
      long,
    ) in
    record { first = λ u. absurd (omega (arith, size)); past = λ u. absurd (omega (arith, size)) }
