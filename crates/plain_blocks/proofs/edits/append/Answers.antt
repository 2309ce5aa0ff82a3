use Rattle.std.proofs.Common.{◌≡◌, ◌<◌, length, arith, rules}
use Rattle.block_list.specs.Edits.{IsJoinedBefore}
use Rattle.plain_blocks.proofs.EditLemmas.{front_tiled, appended_either, joined_shorter}
use Rattle.plain_blocks.proofs.edits.append.Goals as goal

pub push-requires-clause-tiled : goal.push-requires-clause-tiled
push-requires-clause-tiled c = rw c.truncate.ensures.items (front_tiled _ _ c.requires.tiled)

pub returns-clause-tiled : goal.returns-clause-tiled
returns-clause-tiled c =
    let n : c.len.result ≡ length c.args.blocks.now.items = omega arith in
    let f : IsJoinedBefore c.args.blocks.now.items (length c.args.blocks.now.items) c.args.block
    c.join_before-i.result.0 c.join_before-i.result.1 = rw n at c.join_before-i.ensures in
    appended_either _ _ _ _ _ _ c.requires.tiled c.requires.some c.requires.short f
    (rw c.truncate.ensures.items at c.push.ensures.items)

pub returns-clause-joins : goal.returns-clause-joins
returns-clause-joins c = λ e.
    let n : c.len.result ≡ length c.args.blocks.now.items = omega arith in
    let f : IsJoinedBefore c.args.blocks.now.items (length c.args.blocks.now.items) c.args.block
    c.join_before-i.result.0 c.join_before-i.result.1 = rw n at c.join_before-i.ensures in
    let l : c.join_before-i.result.0 < length c.args.blocks.now.items = joined_shorter _ _ _ _ c.requires.tiled c.requires.merged f e in
    search rules
