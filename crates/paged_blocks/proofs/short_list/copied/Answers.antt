use Rattle.std.proofs.Common.{IsOk, arith}
use Rattle.block_list.specs.Stretches.{stretches}
use Rattle.plain_blocks.proofs.PushLemmas.{on_success}
use Rattle.paged_blocks.proofs.ShortListLemmas.{copied_more, copied_all}
use Rattle.paged_blocks.proofs.short_list.copied.Goals as goal

pub loop-i-preserved : goal.loop-i-preserved
loop-i-preserved c =
    let done : IsOk c.push.result = let v = c.map_err.ensures.variant in let w = c.in_ok-map_err.was in cc in
    copied_more (stretches c.args.tiles.now.statuses) c.loop-i.i _ _ _ c.block.ensures c.loop-i.invariant
    (on_success c.push.result _ done c.push.ensures.ok)

pub returns : goal.returns
returns c = copied_all c.args.tiles.now.statuses c.loop-i.i _ c.loop-i.invariant (omega (arith, c.loop-i-test.false, c.blocks-blocks.ensures))
