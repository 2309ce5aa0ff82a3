use Rattle.rescue_rules.specs.declared.phase.Phase.TheVariants.{Retrying}
use Rattle.rescue_core.specs.Outside.{between, AreSame}
use Rattle.rescue_phases.specs.Turns.{WentByTurns}
use Rattle.rescue_phases.specs.Passing.{IsBeforePass}
use Rattle.rescue_phases.proofs.phases.run_retries.Given as goal

abbrev pub invariant-passes : goal.invariant-passes
invariant-passes g l =
    WentByTurns l.fn.rescue l.rescue (between g.S.Source g.D.Site g.K.Clock g.C.Console
    l.fn.outside l.outside) × AreSame l.fn.outside l.outside
    × IsBeforePass Retrying l.pass l.rescue
