-- What a feed tells of itself, and what a take does to that.
use Rattle.std.specs.Prelude.{◌≡◌, ◌↔◌, ℕ, ◌≤◌, min, Bool, IsTrue, List, [], ◌++◌, length, take, Result, IfOk, OnOk, OnErr, IsErr}
use Rattle.fault_count.specs.Counts.{Rose}
use Rattle.fault_count.specs.Schedule.{Schedule, with_call, FailsNext}

-- whether a feed tells its bytes, and those that weren't taken yet; how often a take failed; and whether it fails by a
-- schedule, and this
pub record FeedState : Type 0 where
  pub tells : Bool
  pub left : List ℕ
  pub faults : ℕ
  pub is_scheduled : Bool
  pub schedule : Schedule

-- what no take changes: whether a feed tells, and its kind; and the count of faults never falls
pub record Keeps (old new : FeedState) : Type 0 where
  pub tells : new.tells ≡ old.tells
  pub scheduled : new.is_scheduled ≡ old.is_scheduled
  pub later : old.faults ≤ new.faults

-- by its schedule a take fails if and only if its number is one of those that fail; else it takes as many bytes as there
-- are and as the buffer holds
pub record TakesBySchedule {E : Type 0} (room : ℕ) (result : Result ℕ E) (old new : FeedState) : Type 0 where
  pub schedule : new.schedule ≡ with_call old.schedule
  pub fails : IsErr result ↔ FailsNext old.schedule
  pub takes : IfOk result (λ n. n ≡ min room (length old.left))

-- what a take does that left this in its buffer, by its outcome
pub record Answers {E : Type 0} (room : ℕ) (buf : List ℕ) (result : Result ℕ E) (old new : FeedState) : Type 0 where
  pub keeps : Keeps old new
  pub taken : IfOk result (λ n. IsTrue old.tells → old.left ≡ take n buf ++ new.left)
  pub ends : IfOk result (λ n. IsTrue old.tells → n ≡ 0 → old.left ≡ [])
  pub kept : OnOk result (new.faults ≡ old.faults)
  pub rose : OnErr result (Rose old.faults new.faults)
  pub stays : OnErr result (IsTrue old.tells → new.left ≡ old.left)
  pub schedule : IsTrue old.is_scheduled → TakesBySchedule room result old new
