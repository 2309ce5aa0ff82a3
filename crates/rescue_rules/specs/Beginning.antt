-- The state in which a run begins.
use Rattle.std.specs.Prelude.{ℕ, min, nat_eq, Bool, true, false, List, length, Option, Some, None, if◌then◌else◌}
use Rattle.block_list.specs.declared.status.Status.{Status}
use Rattle.mapfile_text.specs.declared.state.MapState.{MapState}
use Rattle.mapfile_text.specs.declared.state.Current.{Current}
use Rattle.mapfile_text.specs.declared.state.Current.TheVariants.{Copying as NowCopying, Trimming as NowTrimming, Scraping as NowScraping, Retrying as NowRetrying, Filling as NowFilling, Generating as NowGenerating, Finished as NowFinished}
use Rattle.rescue_rules.specs.declared.tally.Tally.{Tally}
use Rattle.rescue_rules.specs.Setting.{Setting}
use Rattle.rescue_rules.specs.declared.phase.Phase.TheVariants.{Copying}
use Rattle.rescue_rules.specs.Passes.{copying_passes, passes_from, numbered}
use Rattle.rescue_rules.specs.Counts.{counts_of}
use Rattle.rescue_rules.specs.Machine.{Machine, at_start, start_of}
use Rattle.rescue_rules.specs.Preparation.{prepared}

-- the pass with which copying begins: the first, or the one of the state that a mapfile showed, the last at most
abbrev pub first_pass : Option MapState → ℕ
first_pass None = 1
first_pass (Some state) = min state.pass copying_passes

-- the cursor with which copying begins, by the state that a mapfile showed, if there is one; the last pass always
-- begins at its own start
abbrev pub first_cursor : Setting → Option MapState → List Status → ℕ
first_cursor s None map = start_of s (numbered Copying 1) map
first_cursor s (Some state) map =
    if nat_eq (min state.pass copying_passes) copying_passes then start_of s (numbered Copying copying_passes) map
    else min state.pos (length map)

-- what a mapfile shows of a rescue that has done nothing
abbrev pub nothing_shown : MapState
nothing_shown = record { pos = 0; current = NowCopying; pass = 1 }

-- what a mapfile shows at first: the state that it showed before, or if there is none that of a rescue that did nothing
abbrev pub shown_at_first : Option MapState → MapState
shown_at_first None = nothing_shown
shown_at_first (Some state) = state

-- what a run has come to as it begins at this time, with this many areas of its domain that have failed
abbrev pub tally_at_first : (shown : MapState) → (time areas : ℕ) → Tally
tally_at_first shown time areas = record {
  failed = 0;
  began = time;
  now = time;
  whole_at = time;
  due_at = time;
  shown = shown;
  over = None;
  written = 0;
  had_event = false;
  said = None;
  first_areas = areas;
}

-- a run over a map, at this time, that resumes from a mapfile's state if one is given; what a mapfile showed stays
-- until the first event
abbrev pub machine_of : Setting → List Status → (from : Option MapState) → (shown : MapState) → (time : ℕ) → Machine
machine_of s map from shown time = record {
  map = map;
  passes = passes_from s Copying (first_pass from);
  progress = record (at_start s (numbered Copying (first_pass from)) map) { cursor = first_cursor s from map };
  tally = tally_at_first shown time (counts_of s.domain map).failed.areas;
}

-- a mapfile showed that its rescue was copying
abbrev pub was_copying : Current → Bool
was_copying NowCopying = true
was_copying NowTrimming = false
was_copying NowScraping = false
was_copying NowRetrying = false
was_copying NowFilling = false
was_copying NowGenerating = false
was_copying NowFinished = false

-- Copying resumes from the state that a mapfile showed if that was copying, unless what failed is tried again; else it
-- begins with its first pass.
abbrev pub goes_on_from : (try_again : Bool) → Option MapState → Option MapState
goes_on_from try_again None = None
goes_on_from try_again (Some state) = if try_again then None else if was_copying state.current then Some state else None

-- a run at this time over what is made of the map that a mapfile stands for, with the state that it shows
abbrev pub machine_over : Setting → List Status → (state : Option MapState) → (time : ℕ) → Machine
machine_over s statuses state time =
    machine_of s (prepared s.domain s.try_again s.retrim statuses) (goes_on_from s.try_again state)
    (shown_at_first state) time
