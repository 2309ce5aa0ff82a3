-- The part ends with the first newline, or has all bytes for which there is room.
use Rattle.std.proofs.Common.{sym, arith}
use Rattle.ddrescueshow_cli.proofs.FollowLemmas.{part_ended, part_none}
use Rattle.ddrescueshow_cli.proofs.follower.part_of.Goals as goal

pub returns-in-Some-clause-part : goal.returns-in-Some-clause-part
returns-in-Some-clause-part c =
    part_ended c.args.bytes.now c.split_at.result.0.now c.args.room c.min-most.result c.in-Some.at
    c.split_at.ensures.front (omega arith) (omega arith) (sym c.in-Some.ensures.place)

pub returns-in-None-clause-part : goal.returns-in-None-clause-part
returns-in-None-clause-part c =
    part_none c.args.bytes.now c.split_at.result.0.now c.args.room c.min-most.result
    c.split_at.ensures.front (omega arith) (sym c.in-None.ensures.place)
