-- What a source gives of its reads in test mode: what a test map says is finished.
use Rattle.std.specs.Prelude.{◌≡◌, ℕ, zero, suc, ◌+◌, ◌<◌, ◌≤◌, true, false, nat_lt, List, ◌∷◌, length, map, take, if◌then◌else◌}
use Rattle.block_list.specs.declared.status.Status.{Status}
use Rattle.faulty_source.specs.Journal.{Reading}
use Rattle.faulty_source.specs.JournalGains.{JournalGains}
use Rattle.faulty_source.specs.SourceState.{SourceState}
use Rattle.rescue_domain.specs.Finished.{is_finished_at}

-- how many of n positions from one on come before the first that isn't finished
abbrev pub finished_front : (statuses : List Status) → (pos n : ℕ) → ℕ
finished_front statuses pos zero = 0
finished_front statuses pos (suc n) = if is_finished_at statuses pos then 1 + finished_front statuses (pos + 1) n else 0

-- the first front of n positions from pos on are finished, and the next one isn't, unless these are all
pub record IsFront (statuses : List Status) (pos n front : ℕ) : Type 0 where
  pub few : front ≤ n
  pub finished : (x : ℕ) → pos ≤ x → x < pos + front → is_finished_at statuses x ≡ true
  pub stops : front < n → is_finished_at statuses (pos + front) ≡ false

-- a read as it is seen in test mode: if it gave a byte of a position that isn't finished, it failed at the first of
-- these; else it is as it was
abbrev pub seen : (statuses : List Status) → Reading → Reading
seen statuses r =
    if nat_lt (finished_front statuses r.pos (length r.given)) (length r.given)
    then record r { given = take (finished_front statuses r.pos (length r.given)) r.given; ended = false }
    else r

-- a journal gained reads, which are seen as these
pub record GainsSeen (statuses : List Status) (reads old new : List Reading) : Type 0 where
  pub gains : JournalGains old new
  pub seen : map (seen statuses) gains.reads ≡ reads

-- What a source tells in test mode: what the one that it reads does, but its journal has the reads as they are seen.
-- That one's schedule isn't its own, since a failure past the first position that isn't finished is met all the same.
abbrev pub state_seen : (reference : ℕ) (statuses : List Status) → SourceState → SourceState
state_seen reference statuses s = record s {
  journal = map (seen statuses) s.journal;
  is_scheduled = false;
  below = record { reference = reference; test_map = statuses; is_scheduled = s.is_scheduled } ∷ s.below;
  journals_below = s.journal ∷ s.journals_below;
}
