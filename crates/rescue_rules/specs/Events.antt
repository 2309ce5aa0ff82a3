-- The events of a run, as the journal of the input and the readings of the clock tell them.
use Rattle.std.specs.Prelude.{ℕ, List, [], ◌∷◌, slice_index_or, drop, map}
use Rattle.faulty_source.specs.Journal.{Reading}
use Rattle.rescue_rules.specs.Step.{Event}

-- reads, each with two readings of the clock: before it and after it
abbrev pub with_times : List Reading → (times : List ℕ) → List Event
with_times [] times = []
with_times (r ∷ rs) [] = []
with_times (r ∷ rs) (before ∷ []) = []
with_times (r ∷ rs) (before ∷ after ∷ times) =
    record { reading = r; before = before; after = after } ∷ with_times rs times

-- the first reading of the clock is that of the run's start
abbrev pub began_at : (times : List ℕ) → ℕ
began_at times = slice_index_or times 0 0

-- the events of reads, by the readings of the clock after the first one
abbrev pub events_of : List Reading → (times : List ℕ) → List Event
events_of reads times = with_times reads (drop 1 times)

-- the reads of events
abbrev pub reads_of : List Event → List Reading
reads_of events = map (λ e. e.reading) events

-- the readings of the clock of events: one before each read and one after it
abbrev pub times_of : List Event → List ℕ
times_of [] = []
times_of (e ∷ es) = e.before ∷ e.after ∷ times_of es
