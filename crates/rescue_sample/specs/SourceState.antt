-- What the input of a sample tells of itself. For contracts and proofs: no promise uses it.
use Rattle.std.specs.Prelude.{true, false, [], map}
use Rattle.fault_count.specs.Schedule.{no_schedule}
use Rattle.faulty_source.specs.SourceState.{SourceState}
use Rattle.faulty_source.specs.ReadEntries.{reading_of}
use Rattle.rescue_sample.specs.Sample.{sample_bytes, sample_size}
use Rattle.rescue_sample.specs.declared.source.SampleSource.{SampleSource}

-- what a sample tells of itself
abbrev pub state_of : SampleSource → SourceState
state_of s = record {
  tells = true;
  bytes = sample_bytes s.kib;
  ends_at = sample_size s.kib;
  journal = map (reading_of (sample_bytes s.kib)) s.entries.items;
  name = s.name.items;
  is_open = s.open;
  opens = s.opens;
  faults = s.faults;
  losses = s.losses;
  is_scheduled = false;
  schedule = record { calls = no_schedule; room = 0; bad = [] };
  below = [];
  journals_below = [];
}
