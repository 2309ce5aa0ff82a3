use Rattle.std.proofs.Common.{◌≡◌, ◌+◌, ◌-◌, length, min, arith}
use Rattle.plain_blocks.proofs.LookupLemmas.{last_within}
use Rattle.paged_blocks.proofs.ShortListLemmas.{few_front, few_last, few_range_down, few_short, few_below, few_clear}
use Rattle.paged_blocks.proofs.short_list.last_with.Goals as goal

pub range_down-requires : goal.range_down-requires
range_down-requires g c = omega (arith, few_short c.args.tiles.now.statuses _ _ (rw c.end.ensures.end at c.end.ensures.short) c.block-block.ensures)

pub returns-then-is-clause-last : goal.returns-then-is-clause-last
returns-then-is-clause-last g c =
    let z : c.loop-i.i ≡ c.loop-i.i - 1 + 1 = omega arith in
    let m : c.min-to.result ≡ min c.args.before (length c.args.tiles.now.statuses) = rw c.end.ensures.end at c.min-to.ensures in
    let k = few_last c.args.tiles.now.statuses _ _ _ _ (rw c.end.ensures.end at c.end.ensures.short) c.block-block.ensures
    (rw z at c.loop-i.invariant.clear)
    (few_below c.args.tiles.now.statuses _ _ _ c.begun_before-begun.ensures.place (omega arith)) (c.is.ensures.0 c.if-is.true) in
    rw (c.range_down.ensures, m) (last_within _ _ _ _ (rw m at k))

pub returns-then-is-clause-range : goal.returns-then-is-clause-range
returns-then-is-clause-range g c =
    rw c.range_down.ensures (few_range_down c.args.tiles.now.statuses _ _ _ _ (rw c.end.ensures.end at c.end.ensures.short) c.block-block.ensures
    (few_below c.args.tiles.now.statuses _ _ _ c.begun_before-begun.ensures.place (omega arith)) (c.is.ensures.0 c.if-is.true))

pub loop-i-preserved : goal.loop-i-preserved
loop-i-preserved g c =
    let z : c.loop-i.i ≡ c.loop-i.i - 1 + 1 = omega arith in
    record {
      clear = few_front c.args.tiles.now.statuses _ _ _ _ (rw c.end.ensures.end at c.end.ensures.short) c.block-block.ensures
          (λ q. let t = c.is.ensures.1 q in cc) (rw z at c.loop-i.invariant.clear);
      cost = omega (arith, c.tick.ensures, c.loop-i.invariant.cost);
    }

pub returns-clause-none : goal.returns-clause-none
returns-clause-none g c = few_clear _ _ _ _ _ c.loop-i-test.false (rw c.end.ensures.end at c.min-to.ensures) c.loop-i.invariant.clear
