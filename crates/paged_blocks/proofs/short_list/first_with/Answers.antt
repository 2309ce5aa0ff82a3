use Rattle.std.proofs.Common.{◌+◌, ◌-◌, arith}
use Rattle.paged_blocks.proofs.ShortListLemmas.{some_stretch, last_after, last_clear, last_reached, few_after, few_first, few_range_up, few_none, few_passed, few_short}
use Rattle.paged_blocks.proofs.short_list.first_with.Goals as goal

pub overflow_sub-last : goal.overflow_sub-last
overflow_sub-last g c =
    omega (arith, some_stretch c.args.tiles.now.statuses (c.args.from + 1) (omega arith) (omega (arith, c.end.ensures.end)), c.blocks-last.ensures)

pub block-block-requires : goal.block-block-requires
block-block-requires g c =
    omega (arith, some_stretch c.args.tiles.now.statuses (c.args.from + 1) (omega arith) (omega (arith, c.end.ensures.end)), c.blocks-last.ensures)

pub range_up-requires : goal.range_up-requires
range_up-requires g c = omega (arith, few_short c.args.tiles.now.statuses _ _ (rw c.end.ensures.end at c.end.ensures.short) c.block-block.ensures)

pub returns-then-is-clause-first : goal.returns-then-is-clause-first
returns-then-is-clause-first g c =
    let short = rw c.end.ensures.end at c.end.ensures.short in
    rw c.range_up.ensures (few_first c.args.tiles.now.statuses _ _ _ _ short c.block-block.ensures
    (last_clear _ _ _ _ _ short c.block-block.ensures (omega arith))
    (last_reached c.args.tiles.now.statuses _ _ (omega (arith, c.end.ensures.end)) (omega (arith, c.blocks-last.ensures)))
    (c.is.ensures.0 c.if-is.true))

pub returns-then-is-clause-range : goal.returns-then-is-clause-range
returns-then-is-clause-range g c =
    rw c.range_up.ensures (few_range_up c.args.tiles.now.statuses _ _ _ _ (rw c.end.ensures.end at c.end.ensures.short) c.block-block.ensures
    (last_reached c.args.tiles.now.statuses _ _ (omega (arith, c.end.ensures.end)) (omega (arith, c.blocks-last.ensures)))
    (c.is.ensures.0 c.if-is.true))

pub returns-else-is-clause-none : goal.returns-else-is-clause-none
returns-else-is-clause-none g c =
    let short = rw c.end.ensures.end at c.end.ensures.short in
    few_none c.args.tiles.now.statuses (c.blocks-last.result - 1 + 1) _ _ (omega (arith, c.blocks-last.ensures))
    (few_after c.args.tiles.now.statuses _ _ _ _ short c.block-block.ensures (λ q. let t = c.is.ensures.1 q in cc)
    (last_clear _ _ _ _ _ short c.block-block.ensures (omega arith)))

pub first_from-i-requires-clause-front : goal.first_from-i-requires-clause-front
first_from-i-requires-clause-front g c =
    let some = some_stretch c.args.tiles.now.statuses (c.args.from + 1) (omega arith) (omega (arith, c.end.ensures.end)) in
    omega (
      arith,
      last_after c.args.tiles.now.statuses (c.args.from + 1) _ _ (rw c.end.ensures.end at c.end.ensures.short)
          (omega (arith, some, c.blocks-last.ensures)) c.block-block.ensures (omega arith),
    )

pub range_up-requires-then-i-blocks : goal.range_up-requires-then-i-blocks
range_up-requires-then-i-blocks g c =
    omega (arith, few_short c.args.tiles.now.statuses _ _ (rw c.end.ensures.end at c.end.ensures.short) c.block.ensures)

pub returns-then-i-blocks-clause-first : goal.returns-then-i-blocks-clause-first
returns-then-i-blocks-clause-first g c =
    rw c.range_up-then-i-blocks.ensures (few_first c.args.tiles.now.statuses _ _ _ _ (rw c.end.ensures.end at c.end.ensures.short) c.block.ensures
    (few_passed _ _ _ _ c.first_from-i.ensures.bare) c.first_from-i.ensures.past (c.first_from-i.ensures.has _ c.block.ensures))

pub returns-then-i-blocks-clause-range : goal.returns-then-i-blocks-clause-range
returns-then-i-blocks-clause-range g c =
    rw c.range_up-then-i-blocks.ensures (few_range_up c.args.tiles.now.statuses _ _ _ _ (rw c.end.ensures.end at c.end.ensures.short) c.block.ensures
    c.first_from-i.ensures.past (c.first_from-i.ensures.has _ c.block.ensures))

pub returns-else-i-blocks-clause-none : goal.returns-else-i-blocks-clause-none
returns-else-i-blocks-clause-none g c =
    few_none c.args.tiles.now.statuses _ _ _ (omega (arith, c.blocks-2.ensures)) (few_passed _ _ _ _ c.first_from-i.ensures.bare)
