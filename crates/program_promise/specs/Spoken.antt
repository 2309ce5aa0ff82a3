-- What a program promises whose work says lines. These and the message of the answer are one chain of puts, which the
-- first one that fails ends. So no answer speaks of a put.
use Rattle.std.specs.Prelude.{◌≡◌, ℕ, Bool, false, not, List, [], ◌∷◌, ◌++◌, if◌then◌else◌}
use Rattle.option_words.specs.Grammar.{AskFor, AskSilence}
use Rattle.rescue_console.specs.declared.console.Channel.TheVariants.{Err}
use Rattle.rescue_console.specs.ConsoleState.{ConsoleState}
use Rattle.rescue_console.specs.Speaking.{SpokenPiece, Speaks, SpeaksOn, out_pieces}
use Rattle.program_promise.specs.World.{WorldState, Told, with_console}
use Rattle.program_promise.specs.Program.{Program, is_silent_of, message_by}
use Rattle.program_promise.specs.Promise.{Does, IsDone}

-- a message as a piece for standard error; none if the answer is silent
abbrev pub unless_silent : (silent : Bool) → (message : List ℕ) → List SpokenPiece
unless_silent silent message = if silent then [] else record { channel = Err; text = message } ∷ []

module _ {C E O : Type 0} (p : Program C E O) where
  -- the message of an answer
  abbrev pub pieces_by : E → List SpokenPiece
  pieces_by e = unless_silent (is_silent_of p e) (message_by p e)

  -- What a call says whose work says these lines: nothing if the words ask for that; else the lines, each by one put,
  -- and then the message of the answer, up to the first put that fails. If the words ask that nothing be said, a
  -- message comes only if memory ran out before they were read, and then nothing was touched.
  pub data Utters (lines : List (List ℕ)) (words : List (List ℕ)) (e : E) (old new : WorldState) : Type 0 where
    Nothing : AskSilence p.grammar words → new.console ≡ old.console → Utters lines words e old new
    Spoken : (AskSilence p.grammar words
        → (e ≡ p.faults.memory) × (lines ≡ []) × (with_console new old.console ≡ old))
        → Speaks (out_pieces lines ++ pieces_by e) old.console new.console → Utters lines words e old new

  -- A call says these lines before its message, or none if `quiet` is set; `heard` says whether it is heard after them.
  pub record SaysFirst (lines : List (List ℕ)) (words : List (List ℕ)) (quiet heard : Bool) (old new : ConsoleState)
      : Type 0 where
    pub speaks : SpeaksOn (out_pieces lines) (not quiet) heard old new
    pub loud : quiet ≡ false → AskSilence p.grammar words → lines ≡ []

module _ {C E O : Type 0} (p : Program C E O) (lines : O → List (List ℕ)) where
  -- What a program promises of a call, by all that is told of it: what it does to all objects except the console, and
  -- what it says there.
  pub record SpokenPromise (t : Told E) : Type 0 where
    pub does : Does p t.words t.answer t.before (with_console t.after t.before.console)
    pub says : (c : C) (asks : AskFor p.grammar t.words c)
        → Utters p (lines (does.asked_for c asks).outside) t.words t.answer t.before t.after
    pub says_none : ((c : C) → AskFor p.grammar t.words c → ⊥) → Utters p [] t.words t.answer t.before t.after

  -- what is promised before the message, of a call that is heard then or not
  pub record IsSaid (words : List (List ℕ)) (e : E) (heard : Bool) (old new : WorldState) : Type 0 where
    pub quiet : Bool
    pub done : IsDone p words e quiet old (with_console new old.console)
    pub says : (c : C) (asks : AskFor p.grammar words c)
        → SaysFirst p (lines (done.does.asked_for c asks).outside) words quiet heard old.console new.console
    pub says_none : ((c : C) → AskFor p.grammar words c → ⊥)
        → SaysFirst p [] words quiet heard old.console new.console
