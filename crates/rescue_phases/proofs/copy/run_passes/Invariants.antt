use Rattle.std.proofs.Common.{◌-◌}
use Rattle.rescue_rules.specs.Passes.{copying_passes}
use Rattle.rescue_core.specs.Outside.{between, AreSame}
use Rattle.rescue_phases.specs.Turns.{WentByTurns}
use Rattle.rescue_phases.specs.Copying.{MayCopy}
use Rattle.rescue_phases.proofs.copy.run_passes.Given as goal

abbrev pub invariant-passes : goal.invariant-passes
invariant-passes g l =
    WentByTurns l.initial.rescue l.rescue (between g.S.Source g.D.Site g.K.Clock g.C.Console l.initial.outside
    l.outside) × AreSame l.initial.outside l.outside
    × MayCopy l.rescue

abbrev pub decreases-passes : goal.decreases-passes
decreases-passes g l = copying_passes - l.rescue.pass
