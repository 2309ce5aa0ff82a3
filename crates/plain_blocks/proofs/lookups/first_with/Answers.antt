use Rattle.std.proofs.Common.{◌+◌, ◌<◌, length, arith}
use Rattle.block_list.specs.Edits.{start_of}
use Rattle.block_list.proofs.TileLemmas.{tile_read, start_mono}
use Rattle.plain_blocks.proofs.LookupLemmas.{clear_after, clear_up, found_first, found_range_up}
use Rattle.plain_blocks.proofs.lookups.first_with.Goals as goal

pub overflow_add-result : goal.overflow_add-result
overflow_add-result c =
    let h : c.loop-i.i < length c.args.blocks.now.items = omega arith in
    omega (arith, (tile_read _ _ _ c.requires.tiled h c.block-block.ensures).short)

pub returns-then-is-clause-first : goal.returns-then-is-clause-first
returns-then-is-clause-first c =
    let h : c.loop-i.i < length c.args.blocks.now.items = omega arith in
    let u : c.args.from < start_of c.args.blocks.now.items (c.loop-i.i + 1) =
    omega (
      arith,
      c.begun_before-holding.ensures.reaches,
      start_mono c.args.blocks.now.items c.begun_before-holding.result
          (c.loop-i.i + 1) (omega arith),
    ) in
    rw c.max.ensures (found_first _ _ _ _ _ c.requires.tiled c.requires.merged h c.block-block.ensures c.loop-i.invariant u (c.is.ensures.0 c.if-is.true))

pub returns-then-is-clause-range : goal.returns-then-is-clause-range
returns-then-is-clause-range c =
    let h : c.loop-i.i < length c.args.blocks.now.items = omega arith in
    let u : c.args.from < start_of c.args.blocks.now.items (c.loop-i.i + 1) =
    omega (
      arith,
      c.begun_before-holding.ensures.reaches,
      start_mono c.args.blocks.now.items c.begun_before-holding.result
          (c.loop-i.i + 1) (omega arith),
    ) in
    rw c.max.ensures (found_range_up _ _ _ _ _ c.requires.tiled c.requires.merged h c.block-block.ensures u (c.is.ensures.0 c.if-is.true))

pub loop-i-preserved : goal.loop-i-preserved
loop-i-preserved c =
    let h : c.loop-i.i < length c.args.blocks.now.items = omega arith in
    clear_after _ _ _ _ _ c.requires.tiled c.requires.merged h c.block-block.ensures
    (λ q. let t = c.is.ensures.1 q in cc) c.loop-i.invariant

pub returns-clause-none : goal.returns-clause-none
returns-clause-none c =
    clear_up c.args.blocks.now.items c.loop-i.i _ _ (omega (arith, c.begun_before-holding.ensures.index)) c.loop-i.invariant
