-- What an input in memory tells of itself. For contracts and proofs: no promise uses it.
use Rattle.std.specs.Prelude.{true, [], map}
use Rattle.faulty_source.specs.SourceState.{SourceState}
use Rattle.faulty_source.specs.ReadEntries.{reading_of}
use Rattle.memory_source.specs.declared.memory.MemorySource.{MemorySource}

-- what an input in memory tells of itself
abbrev pub state_of : MemorySource → SourceState
state_of s = record {
  tells = true;
  bytes = s.bytes.items;
  ends_at = s.end;
  journal = map (reading_of s.bytes.items) s.entries.items;
  name = s.name.items;
  is_open = s.open;
  opens = s.opens;
  faults = s.faults;
  losses = s.losses;
  is_scheduled = true;
  schedule = record { calls = s.schedule; room = s.room; bad = s.bad.items };
  below = [];
  journals_below = [];
}
