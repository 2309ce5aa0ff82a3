use Rattle.std.proofs.Common.{◌≡◌, ◌+◌, ◌-◌, ap, arith}
use Rattle.block_pages.specs.declared.page_entry.PageEntry.{PageEntry}
use Rattle.paged_blocks.specs.Paging.{before}
use Rattle.paged_blocks.proofs.PagingLemmas.{no_entry, before_more, block_in_page}
use Rattle.paged_blocks.proofs.KeptLemmas.{block_there, entries_short}
use Rattle.paged_blocks.proofs.counts.block_at.Goals as goal

pub overflow_add-k : goal.overflow_add-k
overflow_add-k c = omega (arith, entries_short _ _ c.requires.paging, c.loop-left.invariant.index)

pub loop-left-preserved : goal.loop-left-preserved
loop-left-preserved c =
    let i = c.loop-left.invariant in
    let q : before c.args.pages.now c.args.entries.now.items (c.loop-left.k + 1) + (c.loop-left.left - c.at-left.result.len) ≡ c.args.i =
    omega (
      arith,
      (c.requires.paging.each c.loop-left.k no_entry i.index).len,
      ap (λ (e : PageEntry). e.len) (c.at.ensures no_entry),
      ap (λ (e : PageEntry). e.len) (c.at-left.ensures no_entry),
      before_more c.args.pages.now c.args.entries.now.items c.loop-left.k no_entry i.index,
      i.place,
      c.loop-left-test.true,
    ) in
    record { index = block_there c.args.pages.now c.args.entries.now.items (c.loop-left.k + 1) _ _ q c.requires.index; place = q }

pub returns : goal.returns
returns c =
    block_in_page _ _ _ _ _ no_entry _ _ c.requires.paging c.loop-left.invariant.index c.loop-left.invariant.place
    (rw (c.at-2.ensures no_entry) at c.index-pages-at.is) c.block.ensures
