-- What a source of zeros answers, of which as much is given as a test map has finished.
-- For contracts and proofs: no promise uses it.
use Rattle.std.specs.Prelude.{◌≡◌, ℕ, ◌-◌, min, Bool, true, false, ◌&&◌, nat_eq, nat_lt, List, [], ◌∷◌, map, replicate, if◌then◌else◌}
use Rattle.block_list.specs.declared.status.Status.{Status}
use Rattle.fault_count.specs.Schedule.{no_schedule}
use Rattle.faulty_source.specs.declared.journal.ReadEntry.{ReadEntry}
use Rattle.faulty_source.specs.declared.source.Got.{Got}
use Rattle.faulty_source.specs.declared.source.Got.TheVariants.{Read, End}
use Rattle.faulty_source.specs.Journal.{Reading}
use Rattle.faulty_source.specs.SourceState.{SourceState}
use Rattle.rescue_domain.specs.Testing.{finished_front}

-- how many bytes there are of those that a read asks for
abbrev pub there : (length pos asked : ℕ) → ℕ
there length pos asked = min (length - pos) asked

-- how many bytes a read gives: those before the first that isn't finished
abbrev pub given_at : (length : ℕ) → List Status → (pos asked : ℕ) → ℕ
given_at length statuses pos asked = finished_front statuses pos (there length pos asked)

-- a read meets the end if all that there is is given, and is less than was asked for
abbrev pub meets_end : (length : ℕ) → List Status → (pos asked : ℕ) → Bool
meets_end length statuses pos asked =
    nat_eq (given_at length statuses pos asked) (there length pos asked) && nat_lt (there length pos asked) asked

-- what a read gets: the bytes that it gives, and the end if it meets that
abbrev pub got_at : (length : ℕ) → List Status → (pos asked : ℕ) → Got
got_at length statuses pos asked =
    if meets_end length statuses pos asked then End (given_at length statuses pos asked)
    else Read (given_at length statuses pos asked)

-- an entry of the journal is of a read of a source with this length and test map
pub record IsSeenIn (length : ℕ) (statuses : List Status) (e : ReadEntry) : Type 0 where
  pub given : e.given ≡ given_at length statuses e.pos e.asked
  pub ended : e.ended ≡ meets_end length statuses e.pos e.asked

-- the read that an entry stands for, which gave zeros
abbrev pub reading_of : ReadEntry → Reading
reading_of e = record { pos = e.pos; asked = e.asked; given = replicate e.given 0; ended = e.ended }

-- What such a source tells: its length, its test map, the reference to the console that it prints on, its journal, the
-- name of its open input, whether that is open, and its counts.
abbrev pub plan_source_state : (length : ℕ) → List Status → (reference : ℕ) → List ReadEntry → (name : List ℕ)
    → (opened : Bool) → (opens faults losses : ℕ) → SourceState
plan_source_state length statuses reference entries name opened opens faults losses = record {
  tells = true;
  bytes = replicate length 0;
  ends_at = length;
  journal = map reading_of entries;
  name = name;
  is_open = opened;
  opens = opens;
  faults = faults;
  losses = losses;
  is_scheduled = false;
  schedule = record { calls = no_schedule; room = 0; bad = [] };
  below = record { reference = reference; test_map = statuses; is_scheduled = false } ∷ [];
  journals_below = [];
}
