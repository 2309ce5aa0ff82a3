use Rattle.std.proofs.Common.{arith}
use Rattle.memory_source.proofs.Meets.{met_more}
use Rattle.memory_source.proofs.memory.take_attempts.Goals as goal

pub loop-range-preserved : goal.loop-range-preserved
loop-range-preserved c =
    met_more c.args.bad.now c.loop-range.bad c.loop-range.range-index c.args.x c.meet.new.self _ (omega arith)
    (omega arith) c.loop-range.invariant c.meet.ensures
