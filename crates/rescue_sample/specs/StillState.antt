-- What a clock that stands still tells of itself. For contracts and proofs: no promise uses it.
use Rattle.std.specs.Prelude.{◌-◌, ◌^◌, false, nat_lt, [], replicate}
use Rattle.rescue_console.specs.ClockState.{ClockState}
use Rattle.rescue_sample.specs.declared.clock.StillClock.{StillClock}

-- what a clock that stands still tells of itself: its readings, until their count is at the end of its type
abbrev pub state_of : StillClock → ClockState
state_of c = record {
  tells = nat_lt c.made (2 ^ 64 - 1);
  readings = replicate c.made 0;
  is_scheduled = false;
  schedule = [];
}
