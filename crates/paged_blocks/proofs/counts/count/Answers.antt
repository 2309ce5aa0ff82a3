use Rattle.std.proofs.Common.{◌+◌, ◌∙◌, arith}
use Rattle.paged_blocks.proofs.PagingLemmas.{no_entry}
use Rattle.paged_blocks.proofs.CountLemmas.{paged_more, paged_all, paged_end}
use Rattle.paged_blocks.proofs.counts.count.Goals as goal

pub overflow_add-counted : goal.overflow_add-counted
overflow_add-counted c =
    let h = rw c.len-k-end.ensures at c.loop-k-test.true in
    let e = c.requires.each c.loop-k.k no_entry h in
    omega (
      arith,
      rw (c.at.ensures no_entry) at c.of-counted.ensures,
      e.tally c.args.status,
      c.loop-k.invariant,
      paged_more c.args.pages.now c.args.entries.now.items c.args.status c.loop-k.k no_entry h,
      paged_end c.args.pages.now c.args.entries.now.items c.args.status (c.loop-k.k + 1),
      c.requires.tiled.short,
    )

pub loop-k-preserved : goal.loop-k-preserved
loop-k-preserved c =
    let h = rw c.len-k-end.ensures at c.loop-k-test.true in
    let e = c.requires.each c.loop-k.k no_entry h in
    omega (
      arith,
      rw (c.at.ensures no_entry) at c.of-counted.ensures,
      e.tally c.args.status,
      c.loop-k.invariant,
      paged_more c.args.pages.now c.args.entries.now.items c.args.status c.loop-k.k no_entry h,
    )

pub returns : goal.returns
returns c = c.loop-k.invariant ∙ paged_all _ _ _ _ (rw c.len-k-end.ensures at c.loop-k-test.false)
