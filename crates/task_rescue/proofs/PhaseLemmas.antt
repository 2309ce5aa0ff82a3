-- One phase after another.
use Rattle.std.proofs.Common.{Result, Ok, Err}
use Rattle.faulty_source.specs.SourceState.{SourceState}
use Rattle.crash_site.specs.SiteState.{SiteState}
use Rattle.rescue_console.specs.ClockState.{ClockState}
use Rattle.rescue_console.specs.ConsoleState.{ConsoleState}
use Rattle.rescue_rules.specs.Across.{across}
use Rattle.rescue_core.specs.RunState.{RunState}
use Rattle.rescue_core.specs.Closing.{StoppedState}
use Rattle.rescue_phases.specs.Turns.{WentByTurns, PhaseEnds}
use Rattle.rescue_phases.proofs.TurnLemmas.{goes_on, objects_stay, went_up_to_on}

-- a phase after others, by its outcome
pub ends_after : (r q : RunState) (result : Result RunState StoppedState) (a b c : SourceState) (d e f : SiteState)
    (k l n : ClockState) (x y z : ConsoleState) → WentByTurns r q (across a b d e k l x y)
    → PhaseEnds q result (across b c e f l n y z) → PhaseEnds r result (across a c d f k n x z)
ends_after r q (Ok p) a b c d e f k l n x y z i ends = record {
  goes = goes_on r q p a b c d e f k l n x y z i ends.goes;
  halted = tt;
  objects = objects_stay a b c d e f k l n x y z i.objects ends.objects;
}
ends_after r q (Err s) a b c d e f k l n x y z i ends = record {
  goes = tt;
  halted = went_up_to_on s.stop r q s.run a b c d e f k l n x y z i.went i.objects.source i.objects.site.tells ends.halted;
  objects = objects_stay a b c d e f k l n x y z i.objects ends.objects;
}
