use Rattle.std.specs.Prelude.{⊤}
use Rattle.std.proofs.Common.{◌≡◌, ◌-◌, ◌^◌, false}
use Rattle.block_list.specs.declared.types.TypeSet.{TypeSet}
use Rattle.sweep_rules.specs.Sweep.{filler}
use Rattle.rescue_rules.specs.Across.{ObjectsStay}
use Rattle.rescue_core.specs.Outside.{between, AreSame}
use Rattle.fill_generate.specs.Sweeping.{no_input}
use Rattle.fill_generate.specs.declared.mode.SweepMode.TheVariants.{Fill}
use Rattle.fill_generate.specs.SweepState.{setting_of}
use Rattle.fill_generate.specs.Steps.{WentOn, gone_to}
use Rattle.fill_generate.proofs.fill.fill_pieces.Given as goal

abbrev pub invariant-pieces : goal.invariant-pieces
invariant-pieces g l =
    (l.sweeping ≡ gone_to l.initial.sweeping l.sweeping)
    × ((types : TypeSet) → l.initial.sweeping.mode ≡ Fill types
    → WentOn (λ e. ⊤) (setting_of l.initial.sweeping) (filler (setting_of l.initial.sweeping) types l.buffer)
    l.initial.sweeping.sweep l.sweeping.sweep l.initial.sweeping.heard l.sweeping.heard
    (between no_input g.D.Site g.K.Clock g.C.Console l.initial.outside l.outside))
    × ((g.D.Site.state l.outside.site.now).is_drafting ≡ false)
    × ObjectsStay (between no_input g.D.Site g.K.Clock g.C.Console l.initial.outside l.outside)
    × AreSame l.initial.outside l.outside

abbrev pub decreases-pieces : goal.decreases-pieces
decreases-pieces g l = 2 ^ 63 - l.sweeping.sweep.cursor
