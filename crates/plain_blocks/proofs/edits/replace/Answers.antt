use Rattle.std.proofs.Common.{arith}
use Rattle.block_list.specs.Edits.{IsJoinedBefore, IsJoinedAfter}
use Rattle.block_list.proofs.TileLemmas.{start_le_end}
use Rattle.plain_blocks.proofs.EditLemmas.{replaced_tiled, replaced_merged, replaced_same}
use Rattle.plain_blocks.proofs.edits.replace.Goals as goal

pub join_before-low-requires-clause-short : goal.join_before-low-requires-clause-short
join_before-low-requires-clause-short c =
    omega (arith, c.requires.ends, c.requires.tiled.short, start_le_end c.args.blocks.now.items c.args.j)

pub returns-clause-tiled : goal.returns-clause-tiled
returns-clause-tiled c =
    let f : IsJoinedBefore c.args.blocks.now.items c.args.i c.args.block c.join_before-low.result.0
    c.join_before-low.result.1 = c.join_before-low.ensures in
    let g : IsJoinedAfter c.args.blocks.now.items c.args.j c.join_before-low.result.1 c.join_after-high.result.0
    c.join_after-high.result.1 = c.join_after-high.ensures in
    rw c.fuse.ensures.items (replaced_tiled _ _ _ _ _ _ _ _ c.requires.tiled c.requires.some f g)

pub returns-clause-merged : goal.returns-clause-merged
returns-clause-merged c =
    let f : IsJoinedBefore c.args.blocks.now.items c.args.i c.args.block c.join_before-low.result.0
    c.join_before-low.result.1 = c.join_before-low.ensures in
    let g : IsJoinedAfter c.args.blocks.now.items c.args.j c.join_before-low.result.1 c.join_after-high.result.0
    c.join_after-high.result.1 = c.join_after-high.ensures in
    rw c.fuse.ensures.items (replaced_merged _ _ _ _ _ _ _ _ c.requires.front c.requires.back f g)

pub returns-clause-marked : goal.returns-clause-marked
returns-clause-marked c =
    let f : IsJoinedBefore c.args.blocks.now.items c.args.i c.args.block c.join_before-low.result.0
    c.join_before-low.result.1 = c.join_before-low.ensures in
    let g : IsJoinedAfter c.args.blocks.now.items c.args.j c.join_before-low.result.1 c.join_after-high.result.0
    c.join_after-high.result.1 = c.join_after-high.ensures in
    rw c.fuse.ensures.items (replaced_same _ _ _ _ _ _ _ _ c.requires.starts c.requires.ends f g)
