use Rattle.std.proofs.Common.{◌≡◌, ◌-◌, ◌^◌, false, length}
use Rattle.sweep_rules.specs.Sweep.{generator}
use Rattle.rescue_rules.specs.Across.{ObjectsStay}
use Rattle.rescue_core.specs.Outside.{between, AreSame}
use Rattle.fill_generate.specs.Sweeping.{no_input}
use Rattle.fill_generate.specs.SweepState.{setting_of}
use Rattle.fill_generate.specs.Steps.{WentOn, IsLookedUp, gone_to}
use Rattle.fill_generate.proofs.generate.generate_pieces.Given as goal

abbrev pub invariant-pieces : goal.invariant-pieces
invariant-pieces g l =
    (l.sweeping ≡ gone_to l.initial.sweeping l.sweeping) × (length l.buffer ≡ length l.initial.buffer)
    × WentOn (IsLookedUp (setting_of l.initial.sweeping) (g.D.Site.state l.initial.outside.site.now)) (setting_of l.initial.sweeping)
    (generator (setting_of l.initial.sweeping)) l.initial.sweeping.sweep l.sweeping.sweep l.initial.sweeping.heard
    l.sweeping.heard
    (between no_input g.D.Site g.K.Clock g.C.Console l.initial.outside l.outside)
    × ((g.D.Site.state l.outside.site.now).is_drafting ≡ false)
    × ObjectsStay (between no_input g.D.Site g.K.Clock g.C.Console l.initial.outside l.outside)
    × AreSame l.initial.outside l.outside

abbrev pub decreases-pieces : goal.decreases-pieces
decreases-pieces g l = 2 ^ 63 - l.sweeping.sweep.cursor
