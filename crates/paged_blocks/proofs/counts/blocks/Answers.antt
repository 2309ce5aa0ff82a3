use Rattle.std.proofs.Common.{◌+◌, ◌∙◌, ap, arith}
use Rattle.block_pages.specs.declared.page_entry.PageEntry.{PageEntry}
use Rattle.paged_blocks.specs.Paging.{flat}
use Rattle.paged_blocks.proofs.PagingLemmas.{no_entry, before_more, before_le, before_all}
use Rattle.paged_blocks.proofs.KeptLemmas.{blocks_short}
use Rattle.paged_blocks.proofs.counts.blocks.Goals as goal

pub overflow_add-blocks : goal.overflow_add-blocks
overflow_add-blocks c =
    let h = rw c.len-k-end.ensures at c.loop-k-test.true in
    let e = c.requires.each c.loop-k.k no_entry h in
    omega (
      arith,
      e.len,
      ap (λ (x : PageEntry). x.len) (c.at-blocks.ensures no_entry),
      c.loop-k.invariant,
      before_more c.args.pages.now c.args.entries.now.items c.loop-k.k no_entry h,
      before_le c.args.pages.now c.args.entries.now.items (c.loop-k.k + 1),
      blocks_short (flat c.args.pages.now c.args.entries.now.items) c.requires.tiled,
    )

pub loop-k-preserved : goal.loop-k-preserved
loop-k-preserved c =
    let h = rw c.len-k-end.ensures at c.loop-k-test.true in
    let e = c.requires.each c.loop-k.k no_entry h in
    omega (
      arith,
      e.len,
      ap (λ (x : PageEntry). x.len) (c.at-blocks.ensures no_entry),
      c.loop-k.invariant,
      before_more c.args.pages.now c.args.entries.now.items c.loop-k.k no_entry h,
    )

pub returns : goal.returns
returns c = c.loop-k.invariant ∙ before_all _ _ _ (rw c.len-k-end.ensures at c.loop-k-test.false)
