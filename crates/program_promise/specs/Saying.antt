-- How a message is put on standard error when some work is done, unless nothing is to be said.
-- For contracts and proofs: no promise uses it.
use Rattle.std.specs.Prelude.{◌≡◌, ◌⊎◌, ℕ, Bool, true, false, IsTrue, List}
use Rattle.fault_count.specs.Schedule.{with_call}
use Rattle.rescue_console.specs.declared.console.Channel.TheVariants.{Err}
use Rattle.rescue_console.specs.ConsoleState.{ConsoleState, Puts, PutsPart}

-- a message was put, or a beginning of it, unless the answer has none or nothing is to be said
pub data SaysAs (silent quiet : Bool) (message : List ℕ) (old new : ConsoleState) : Type 0 where
  Silence : (silent ≡ true) ⊎ (quiet ≡ true) → new ≡ old → SaysAs silent quiet message old new
  Speech : silent ≡ false → quiet ≡ false → Puts Err message old new ⊎ PutsPart Err message old new
      → (IsTrue old.is_scheduled → new.schedule ≡ with_call old.schedule) → SaysAs silent quiet message old new
