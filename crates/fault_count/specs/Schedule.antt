-- Which calls of an object in memory are to fail.
use Rattle.std.specs.Prelude.{ℕ, List, ◌++◌, ◌∷◌, [], Contains}
use Rattle.fault_count.specs.Counts.{raised}

-- The calls that fail, each by its number, counted from 1 over all calls, and by how many of its steps it makes before;
-- and how many calls were made.
pub record Schedule : Type 0 where
  pub failing : List (ℕ × ℕ)
  pub made : ℕ

-- no call was made, and none is to fail
abbrev pub no_schedule : Schedule
no_schedule = record { failing = []; made = 0 }

-- the schedule after one more call
abbrev pub with_call : Schedule → Schedule
with_call s = record s { made = raised s.made }

-- the schedule with one more call that is to fail, after some of its steps
abbrev pub with_failing_after : (number steps : ℕ) → Schedule → Schedule
with_failing_after number steps s = record s { failing = s.failing ++ (number, steps) ∷ [] }

-- the schedule with one more call that is to fail, before its first step
abbrev pub with_failing : ℕ → Schedule → Schedule
with_failing number s = with_failing_after number 0 s

-- the next call is one of those that fail, after this many steps
abbrev pub FailsAfter : Schedule → (steps : ℕ) → Type 0
FailsAfter s steps = Contains s.failing (raised s.made, steps)

-- the next call is one of those that fail
abbrev pub FailsNext : Schedule → Type 0
FailsNext s = (steps : ℕ) × FailsAfter s steps
