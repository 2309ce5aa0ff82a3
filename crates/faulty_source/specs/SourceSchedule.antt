-- How an input in memory fails by its schedule.
use Rattle.std.specs.Prelude.{◌≡◌, ◌⊎◌, ℕ, ◌<◌, List, length, codes}
use Rattle.fault_count.specs.Schedule.{Schedule, with_call, FailsNext}
use Rattle.faulty_source.specs.declared.bad_range.BadRange.{BadRange}
use Rattle.faulty_source.specs.Memory.{name_limit}

-- how an input in memory fails: which calls do; how many reads the journal holds; and the positions at which reads fail
pub record SourceSchedule : Type 0 where
  pub calls : Schedule
  pub room : ℕ
  pub bad : List BadRange

-- a call is counted
pub record CountsCall (old new : SourceSchedule) : Type 0 where
  pub calls : new.calls ≡ with_call old.calls
  pub room : new.room ≡ old.room

-- by its schedule an open fails if its number is one of those that fail, at one name, and at names over the limit
abbrev pub OpenFails : SourceSchedule → (name : List ℕ) → Type 0
OpenFails schedule name = FailsNext schedule.calls ⊎ (name ≡ codes "missing") ⊎ (name_limit < length name)
