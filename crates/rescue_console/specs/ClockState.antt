-- What a clock tells of itself, and what a reading does to that.
use Rattle.std.specs.Prelude.{◌≡◌, ℕ, ◌-◌, ◌<◌, ◌^◌, min, Bool, IsTrue, List, [], ◌∷◌, ◌++◌, length, slice_index_or}

-- Whether a clock tells its readings, and those so far; and whether it reads by a schedule, and this.
pub record ClockState : Type 0 where
  pub tells : Bool
  pub readings : List ℕ
  pub is_scheduled : Bool
  pub schedule : List ℕ

-- the reading with a number, counted from 0: the last one of the schedule is repeated, and an empty schedule reads 0
abbrev pub reading_at : List ℕ → ℕ → ℕ
reading_at schedule n = slice_index_or schedule (min n (length schedule - 1)) 0

-- what no reading changes: the kind of a clock, and its schedule
pub record Keeps (old new : ClockState) : Type 0 where
  pub scheduled : new.is_scheduled ≡ old.is_scheduled
  pub schedule : new.schedule ≡ old.schedule

-- these readings were made: a clock that tells after them told before, and tells them
pub record Reads (times : List ℕ) (old new : ClockState) : Type 0 where
  pub tells : IsTrue new.tells → IsTrue old.tells
  pub told : IsTrue new.tells → new.readings ≡ old.readings ++ times

-- how many readings a clock in memory tells; after that many it tells none
abbrev pub most_readings : ℕ
most_readings = 2 ^ 64 - 2

-- by its schedule a clock reads the next reading, and goes on to tell up to the greatest number that it can count
pub record TellsTimeBySchedule (now : ℕ) (old new : ClockState) : Type 0 where
  pub reads : IsTrue old.tells → now ≡ reading_at old.schedule (length old.readings)
  pub tells : IsTrue old.tells → length old.readings < most_readings → IsTrue new.tells

-- what a reading does
pub record Answers (now : ℕ) (old new : ClockState) : Type 0 where
  pub keeps : Keeps old new
  pub told : Reads (now ∷ []) old new
  pub schedule : IsTrue old.is_scheduled → TellsTimeBySchedule now old new
