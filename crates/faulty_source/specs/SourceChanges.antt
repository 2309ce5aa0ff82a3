-- What a call does to the state of a source.
use Rattle.std.specs.Prelude.{◌≡◌, ◌⊎◌, ◌↔◌, ℕ, ◌+◌, ◌<◌, ◌≤◌, IsTrue, List, [], ◌∷◌, ◌++◌, length, take, slice_range, true, Result, is_ok, IfOk, OnOk, OnErr, IsErr}
use Rattle.fault_count.specs.Counts.{Rose, raised}
use Rattle.fault_count.specs.Schedule.{FailsNext}
use Rattle.faulty_source.specs.declared.source.Got.{Got}
use Rattle.faulty_source.specs.Got.{count_of, is_end}
use Rattle.faulty_source.specs.Memory.{ReadGives, bad_after}
use Rattle.faulty_source.specs.Journal.{Reading}
use Rattle.faulty_source.specs.JournalGains.{AllGain}
use Rattle.faulty_source.specs.SourceSchedule.{CountsCall, OpenFails}
use Rattle.faulty_source.specs.SourceState.{SourceState}

-- what no call changes: whether a source tells, its bytes and its end, and which sources are below it; no count ever
-- falls, and no journal below loses a read
pub record Keeps (old new : SourceState) : Type 0 where
  pub tells : new.tells ≡ old.tells
  pub scheduled : new.is_scheduled ≡ old.is_scheduled
  pub bytes : IsTrue old.tells → new.bytes ≡ old.bytes
  pub end : IsTrue old.tells → new.ends_at ≡ old.ends_at
  pub opens : old.opens ≤ new.opens
  pub faults : old.faults ≤ new.faults
  pub losses : old.losses ≤ new.losses
  pub below : new.below ≡ old.below
  pub journals_below : IsTrue old.tells → AllGain old.journals_below new.journals_below

-- what no call changes, and the input stays open or not, under its name, with no further open
pub record Stays (old new : SourceState) : Type 0 where
  pub keeps : Keeps old new
  pub input : new.is_open ≡ old.is_open
  pub name : IsTrue old.tells → new.name ≡ old.name
  pub opens : new.opens ≡ old.opens
  pub faults : new.faults ≡ old.faults

-- these reads were answered, and none was lost
pub record Reads (reads : List Reading) (old new : SourceState) : Type 0 where
  pub told : IsTrue old.tells → new.journal ≡ old.journal ++ reads
  pub losses : new.losses ≡ old.losses

-- a read was lost
pub record Loses (old new : SourceState) : Type 0 where
  pub untold : IsTrue old.tells → new.journal ≡ old.journal
  pub rose : Rose old.losses new.losses

-- what an open of this name does, by its outcome
pub record AnswersOpen {E : Type 0} (name : List ℕ) (result : Result ℕ E) (old new : SourceState) : Type 0 where
  pub keeps : Keeps old new
  pub named : OnOk result (IsTrue old.tells → new.name ≡ name)
  pub all : IfOk result (λ n. IsTrue old.tells → n ≡ length old.bytes)
  pub input : new.is_open ≡ is_ok result
  pub opens : new.opens ≡ raised old.opens
  pub journal : IsTrue old.tells → new.journal ≡ old.journal
  pub kept : OnOk result (new.faults ≡ old.faults)
  pub rose : OnErr result (Rose old.faults new.faults)
  pub losses : new.losses ≡ old.losses

-- what a read does that left this in its buffer, by its outcome
pub record AnswersRead {E : Type 0} (pos asked : ℕ) (buf : List ℕ) (result : Result Got E) (old new : SourceState)
    : Type 0 where
  pub stays : Stays old new
  pub right : IfOk result (λ got. IsTrue old.tells
      → take (count_of got) buf ≡ slice_range old.bytes pos (pos + count_of got))
  pub told : IfOk result (λ got. IsTrue old.tells → new.journal ≡ old.journal
      ++ record { pos = pos; asked = asked; given = take (count_of got) buf; ended = is_end got } ∷ [])
  pub ends : IfOk result (λ got. is_end got ≡ true → count_of got < asked)
  pub over : IfOk result (λ got. is_end got ≡ true → IsTrue old.tells → old.ends_at ≤ pos + count_of got)
  pub kept : OnOk result (new.losses ≡ old.losses)
  pub lost : OnErr result (Loses old new)

-- what an open does by its schedule
pub record OpensBySchedule {E : Type 0} (name : List ℕ) (result : Result ℕ E) (old new : SourceState) : Type 0 where
  pub answers : IsErr result ↔ OpenFails old.schedule name
  pub counts : CountsCall old.schedule new.schedule
  pub bad : new.schedule.bad ≡ old.schedule.bad

-- by its schedule a read is lost if its number is one of those that fail, or if the journal is full; else it gives
-- the bytes up to the first position at which reads fail, or to the end
pub record ReadsBySchedule {E : Type 0} (pos asked : ℕ) (result : Result Got E) (old new : SourceState) : Type 0 where
  pub answers : IsErr result ↔ (FailsNext old.schedule.calls ⊎ (old.schedule.room ≤ length old.journal))
  pub counts : CountsCall old.schedule new.schedule
  pub gives : IfOk result (λ got. ReadGives old.ends_at old.schedule.bad pos asked got)
  pub bad : IfOk result (λ got. new.schedule.bad ≡ bad_after old.schedule.bad pos asked got)
  pub unmet : OnErr result (new.schedule.bad ≡ old.schedule.bad)
