use Rattle.std.proofs.Common.{◌≡◌}
use Rattle.rescue_core.specs.Outside.{between, AreSame}
use Rattle.rescue_phases.specs.Turns.{WentByTurns}
use Rattle.rescue_phases.specs.Copying.{MayCopy}
use Rattle.rescue_phases.proofs.CopyingLemmas.{ahead_of}
use Rattle.rescue_phases.proofs.copy.run_pass.Given as goal

abbrev pub invariant-turns : goal.invariant-turns
invariant-turns g l =
    WentByTurns l.initial.rescue l.rescue (between g.S.Source g.D.Site g.K.Clock g.C.Console l.initial.outside
    l.outside) × AreSame l.initial.outside l.outside
    × MayCopy l.rescue × (l.rescue.pass ≡ l.initial.rescue.pass)

abbrev pub decreases-turns : goal.decreases-turns
decreases-turns g l = ahead_of l.rescue
