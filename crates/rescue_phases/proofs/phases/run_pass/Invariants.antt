use Rattle.std.proofs.Common.{◌≡◌}
use Rattle.rescue_core.specs.Outside.{between, AreSame}
use Rattle.rescue_phases.specs.Turns.{WentByTurns}
use Rattle.rescue_phases.proofs.PassingLemmas.{IsInPass, left_of}
use Rattle.rescue_phases.proofs.phases.run_pass.Given as goal

abbrev pub invariant-turns : goal.invariant-turns
invariant-turns g l =
    WentByTurns l.fn.rescue l.rescue (between g.S.Source g.D.Site g.K.Clock g.C.Console
    l.fn.outside l.outside) × AreSame l.fn.outside l.outside
    × IsInPass l.rescue × (l.rescue.phase ≡ l.fn.phase) × (l.rescue.pass ≡ l.fn.pass)

abbrev pub decreases-turns : goal.decreases-turns
decreases-turns g l = left_of l.rescue.phase l.rescue
