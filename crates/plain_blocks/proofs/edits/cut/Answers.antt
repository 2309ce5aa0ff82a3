use Rattle.std.proofs.Common.{◌≡◌, ◌+◌, ◌-◌, ◌<◌, ap, arith, length}
use Rattle.block_list.specs.Edits.{start_of}
use Rattle.block_list.proofs.TileLemmas.{tile_read}
use Rattle.plain_blocks.proofs.EditLemmas.{cut_read, uncut}
use Rattle.plain_blocks.proofs.edits.cut.Goals as goal

pub overflow_add-block : goal.overflow_add-block
overflow_add-block c =
    let r = tile_read _ _ _ c.requires.tiled (omega (arith, c.requires.place.index)) c.block-block.ensures in
    omega (arith, r.short)

pub divide-requires-clause-inner : goal.divide-requires-clause-inner
divide-requires-clause-inner c =
    let r = tile_read _ _ _ c.requires.tiled (omega (arith, c.requires.place.index)) c.block-block.ensures in
    omega (arith, r.begins, c.requires.place.before (omega arith))

pub returns-then-at-block-clause-cut : goal.returns-then-at-block-clause-cut
returns-then-at-block-clause-cut c =
    let h : c.args.i - 1 < length c.args.blocks.now.items = omega (arith, c.requires.place.index) in
    let r = tile_read _ _ _ c.requires.tiled h c.block-block.ensures in
    cut_read _ _ _ _ _ c.block-block.result (omega arith) c.requires.tiled h c.block-block.ensures
    (omega (arith, r.begins, c.requires.place.before (omega arith))) c.if-at-block.true c.divide.ensures.items

pub returns-else-at-block-clause-cut : goal.returns-else-at-block-clause-cut
returns-else-at-block-clause-cut c =
    let r = tile_read c.args.blocks.now.items (c.args.i - 1) _ c.requires.tiled (omega (arith, c.requires.place.index))
    c.block-block.ensures in
    let z : c.args.i - 1 + 1 ≡ c.args.i = omega arith in
    uncut _ _ _ c.requires.tiled c.requires.place.index
    (omega (arith, r.ends, c.requires.place.reaches, ap (λ n. start_of c.args.blocks.now.items n) z))

pub returns-else-i-gt0-clause-cut : goal.returns-else-i-gt0-clause-cut
returns-else-i-gt0-clause-cut c =
    let z : c.args.i ≡ 0 = omega arith in
    uncut _ _ _ c.requires.tiled c.requires.place.index
    (omega (arith, c.requires.place.reaches, ap (λ n. start_of c.args.blocks.now.items n) z))
