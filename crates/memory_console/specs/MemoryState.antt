-- What a clock, a console and a feed in memory tell of themselves. For contracts and proofs: no promise uses it.
use Rattle.std.specs.Prelude.{◌-◌, ◌^◌, true, map, drop, nat_lt}
use Rattle.std.specs.List.{range_with_len}
use Rattle.rescue_console.specs.ClockState.{ClockState, reading_at}
use Rattle.rescue_console.specs.ConsoleState.{ChannelState, ConsoleState}
use Rattle.rescue_console.specs.FeedState.{FeedState}
use Rattle.memory_console.specs.declared.memory.MemoryClock.{MemoryClock}
use Rattle.memory_console.specs.declared.memory.MemoryChannel.{MemoryChannel}
use Rattle.memory_console.specs.declared.memory.MemoryConsole.{MemoryConsole}
use Rattle.memory_console.specs.declared.memory.MemoryFeed.{MemoryFeed}

-- a clock in memory tells the readings that it made, until their count is at the end of its type
abbrev pub state_of_clock : MemoryClock → ClockState
state_of_clock c = record {
  tells = nat_lt c.made (2 ^ 64 - 1);
  readings = map (reading_at c.schedule.items) (range_with_len 0 c.made);
  is_scheduled = true;
  schedule = c.schedule.items;
}

-- a channel in memory tells its text, and how often a put there failed
abbrev pub state_of_channel : MemoryChannel → ChannelState
state_of_channel c = record { text = c.text.items; faults = c.faults }

-- a console in memory tells its two channels, the schedule by which it fails, and how many puts found no memory
abbrev pub state_of_console : MemoryConsole → ConsoleState
state_of_console c = record {
  tells = true;
  out = state_of_channel c.out;
  err = state_of_channel c.err;
  is_scheduled = true;
  schedule = c.schedule;
  starved = c.starving;
}

-- a feed in memory tells what is left of its bytes, its count of faults, and the schedule by which it fails
abbrev pub state_of_feed : MemoryFeed → FeedState
state_of_feed f = record {
  tells = true;
  left = drop f.taken f.bytes.items;
  faults = f.faults;
  is_scheduled = true;
  schedule = f.schedule;
}
