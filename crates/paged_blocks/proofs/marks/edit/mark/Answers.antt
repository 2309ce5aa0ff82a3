use Rattle.std.proofs.Common.{arith}
use Rattle.paged_blocks.proofs.PagingLemmas.{no_entry}
use Rattle.paged_blocks.proofs.TouchedLemmas.{page_order}
use Rattle.paged_blocks.proofs.MarkLemmas.{joined, some_taken, new_blocks, few_new}
use Rattle.paged_blocks.proofs.marks.edit.mark.Goals as goal

pub returns-clause-edit : goal.returns-clause-edit
returns-clause-edit c =
    let f = c.join_front-front.ensures in
    let g = c.join_back-back.ensures in
    let n = new_blocks _ _ _ _ _ _ _ c.new-new.ensures c.push_some.ensures c.push.ensures c.push_some-2.ensures in
    let new = few_new _ _ _ _ n in
    let taken = some_taken _ _ _ _ _ c.args.block _ _ c.requires.some f.joined g.joined in
    record {
      order = page_order _ _ _ _ _ _ no_entry g.entry (g.index no_entry) taken;
      last = g.entry;
      from = f.index;
      to = g.index;
      rising = taken;
      some = new.some;
      few = new.few;
      gain = omega (arith, new.few, taken);
    }

pub returns-clause-marked : goal.returns-clause-marked
returns-clause-marked c =
    let n = new_blocks _ _ _ _ _ _ _ c.new-new.ensures c.push_some.ensures c.push.ensures c.push_some-2.ensures in
    joined _ _ _ _ _ _ c.args.block _ _ c.requires.paging.tiled c.requires.some c.requires.short
    c.join_front-front.ensures.joined c.join_back-back.ensures.joined n

pub returns-clause-adds : goal.returns-clause-adds
returns-clause-adds c =
    let f = c.join_front-front.ensures in
    let g = c.join_back-back.ensures in
    let n = new_blocks _ _ _ _ _ _ _ c.new-new.ensures c.push_some.ensures c.push.ensures c.push_some-2.ensures in
    let new = few_new _ _ _ _ n in
    let taken = some_taken _ _ _ _ _ c.args.block _ _ c.requires.some f.joined g.joined in
    λ h. omega (arith, new.fewer (g.joined.none (omega (arith, f.joined.ends, c.requires.end))), taken)
