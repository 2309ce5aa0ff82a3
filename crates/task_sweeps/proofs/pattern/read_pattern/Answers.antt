use Rattle.std.proofs.Common.{arith}
use Rattle.faulty_source.proofs.Keeping.{stays_self}
use Rattle.task_sweeps.proofs.PatternLemmas.{taken_read}
use Rattle.task_sweeps.proofs.pattern.read_pattern.Goals as goal

pub returns-then-end-eq0-clause-source : goal.returns-then-end-eq0-clause-source
returns-then-end-eq0-clause-source g c = stays_self _

pub returns-in_default-clause-source : goal.returns-in_default-clause-source
returns-in_default-clause-source g c = stays_self _

pub returns-clause-takes : goal.returns-clause-takes
returns-clause-takes g c =
    taken_read c.args.cluster c.args.end _ c.in-Ok.buffer.len c.read_front.new.buffer _ (g.S.Source.state c.args.source.now)
    (g.S.Source.state c.read_front.new.source) (omega arith) (omega (arith, c.in-Ok.ensures.len)) (omega (arith, c.in-Ok.ensures.len))
    c.in_ok-read_front.ensures.reads
