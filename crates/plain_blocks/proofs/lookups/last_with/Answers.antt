use Rattle.std.proofs.Common.{◌≡◌, ◌+◌, ◌-◌, ◌<◌, length, arith}
use Rattle.block_list.specs.Edits.{start_of}
use Rattle.block_list.proofs.TileLemmas.{tile_read, start_mono}
use Rattle.plain_blocks.proofs.LookupLemmas.{clear_before, found_last, found_range_down}
use Rattle.plain_blocks.proofs.lookups.last_with.Goals as goal

pub overflow_add-block : goal.overflow_add-block
overflow_add-block c =
    let h : c.loop-i.i - 1 < length c.args.blocks.now.items = omega (arith, c.begun_before-begun.ensures.index) in
    omega (arith, (tile_read _ _ _ c.requires.tiled h c.block-block.ensures).short)

pub returns-then-is-clause-last : goal.returns-then-is-clause-last
returns-then-is-clause-last c =
    let h : c.loop-i.i - 1 < length c.args.blocks.now.items = omega (arith, c.begun_before-begun.ensures.index) in
    let z : c.loop-i.i ≡ c.loop-i.i - 1 + 1 = omega arith in
    let l : start_of c.args.blocks.now.items (c.loop-i.i - 1) < c.args.before =
    omega (
      arith,
      start_mono c.args.blocks.now.items (c.loop-i.i - 1) (c.begun_before-begun.result - 1) (omega arith),
      c.begun_before-begun.ensures.before (omega arith),
    ) in
    rw c.min.ensures (found_last _ _ _ _ _ c.requires.tiled c.requires.merged h c.block-block.ensures
    (rw z at c.loop-i.invariant) l (c.is.ensures.0 c.if-is.true))

pub returns-then-is-clause-range : goal.returns-then-is-clause-range
returns-then-is-clause-range c =
    let h : c.loop-i.i - 1 < length c.args.blocks.now.items = omega (arith, c.begun_before-begun.ensures.index) in
    let l : start_of c.args.blocks.now.items (c.loop-i.i - 1) < c.args.before =
    omega (
      arith,
      start_mono c.args.blocks.now.items (c.loop-i.i - 1) (c.begun_before-begun.result - 1) (omega arith),
      c.begun_before-begun.ensures.before (omega arith),
    ) in
    rw c.min.ensures (found_range_down _ _ _ _ _ c.requires.tiled c.requires.merged h c.block-block.ensures l (c.is.ensures.0 c.if-is.true))

pub loop-i-preserved : goal.loop-i-preserved
loop-i-preserved c =
    let h : c.loop-i.i - 1 < length c.args.blocks.now.items = omega (arith, c.begun_before-begun.ensures.index) in
    let z : c.loop-i.i ≡ c.loop-i.i - 1 + 1 = omega arith in
    clear_before _ _ _ _ _ c.requires.tiled c.requires.merged h c.block-block.ensures (λ e. let t = c.is.ensures.1 e in cc) (rw z at c.loop-i.invariant)
