use Rattle.std.proofs.Common.{arith}
use Rattle.memory_site.proofs.MarkLemmas.{spoilt_end}
use Rattle.memory_site.proofs.memory.stop.spoil.Goals as goal

pub returns : goal.returns
returns c = spoilt_end c.args.marks.now c.loop-i.i c.args.bytes.now c.loop-i.bytes (omega arith) c.loop-i.invariant
