-- What a program promises of a call. What an object tells is its own: the forms in memory tell all, those for real
-- files and streams their counts and what is open.
use Rattle.std.specs.Prelude.{◌≡◌, ◌⊎◌, ⊤, ℕ, Bool, true, false, IsTrue, List}
use Rattle.fault_count.specs.Schedule.{with_call}
use Rattle.option_words.specs.Grammar.{AskFor, AreRefusedBy, AskSilence}
use Rattle.rescue_console.specs.declared.console.Channel.TheVariants.{Err}
use Rattle.rescue_console.specs.ConsoleState.{Puts, PutsPart}
use Rattle.program_promise.specs.Work.{Deeds, Works}
use Rattle.program_promise.specs.World.{WorldState, Told, with_console}
use Rattle.program_promise.specs.Kinds.{Kind, Asked, Brought, Wrong, Failed, Starved}
use Rattle.program_promise.specs.Causes.{Changed, changes_of}
use Rattle.program_promise.specs.Program.{Program, is_silent_of, kind_of, line_by, message_by}

module _ {C E O : Type 0} (p : Program C E O) where
  -- the words ask for something, which may be answered so
  pub record AreAccepted (words : List (List ℕ)) (e : E) : Type 0 where
    pub command : C
    pub asks : AskFor p.grammar words command
    pub fits : p.Fits command e

  -- What an answer says of the words, by its kind: they are refused if and only if the grammar refuses them, except
  -- that memory may run out first.
  abbrev pub SaysOfWords : Kind → E → (words : List (List ℕ)) → Type 0
  SaysOfWords Asked e words = AreAccepted words e
  SaysOfWords Brought e words = AreAccepted words e
  SaysOfWords (Wrong fault) e words = AreRefusedBy p.grammar words fault
  SaysOfWords (Failed at) e words = AreAccepted words e
  SaysOfWords Starved e words = ⊤

  -- What was done for a command: there is an outside, and deeds there, which agree with what the objects tell; the
  -- answer and what is left are those of the work.
  pub record DoneFor (c : C) (line : List ℕ) (e : E) (old new : WorldState) : Type 0 where
    pub outside : O
    pub did : Deeds
    pub agrees : p.Agrees c outside did old new
    pub work : Works p.faults (p.rows c outside) (p.Run c line outside) e did
    pub leaves : p.Leaves c line outside e did old new

  -- What was done for a command, with the cause that the answer's row says, and with what stays.
  pub record Worked (c : C) (words : List (List ℕ)) (e : E) (old new : WorldState) : Type 0 where
    pub done : DoneFor c (line_by p words) e old new
    pub cause : Changed (changes_of (kind_of p e)) old new
    pub also : (p.row e).also
    pub keeps : p.Keeps e old new

  -- What was done for the words of a call. Words that ask for nothing are refused, whatever the objects tell; only
  -- memory may run out before. Each answer has its cause, and whatever more its row says. If the words ask for
  -- something that is done, and else nothing.
  pub record Does (words : List (List ℕ)) (e : E) (old new : WorldState) : Type 0 where
    pub words_are : SaysOfWords (kind_of p e) e words
    pub cause : Changed (changes_of (kind_of p e)) old new
    pub also : (p.row e).also
    pub asked_for : (c : C) → AskFor p.grammar words c → DoneFor c (line_by p words) e old new
    pub nothing : ((c : C) → AskFor p.grammar words c → ⊥) → new ≡ old
    pub keeps : p.Keeps e old new

  -- What was done for the words of a call before any message of the answer; `quiet` says whether nothing is to be said.
  pub record IsDone (words : List (List ℕ)) (e : E) (quiet : Bool) (old new : WorldState) : Type 0 where
    pub does : Does words e old new
    -- Nothing is to be said only if the words ask for that. Something is to be said though they ask for that only if
    -- memory ran out before they were read, and nothing was touched.
    pub silent : quiet ≡ true → AskSilence p.grammar words
    pub loud : quiet ≡ false → AskSilence p.grammar words → (e ≡ p.faults.memory) × (new ≡ old)

  -- What a program says on standard error when the work is done, and the world is `between`: nothing of an answer that
  -- was asked for, and nothing if the words ask for that. Else the message of the answer, as one put; or a beginning of
  -- it, if the console failed.
  pub data Says (t : Told E) (between : WorldState) : Type 0 where
    Nothing : (is_silent_of p t.answer ≡ true) ⊎ AskSilence p.grammar t.words → t.after ≡ between → Says t between
    Message : is_silent_of p t.answer ≡ false
        → (AskSilence p.grammar t.words → (t.answer ≡ p.faults.memory) × (between ≡ t.before))
        → t.after ≡ with_console between t.after.console
        → Puts Err (message_by p t.answer) between.console t.after.console
        ⊎ PutsPart Err (message_by p t.answer) between.console t.after.console
        → (IsTrue between.console.is_scheduled → t.after.console.schedule ≡ with_call between.console.schedule)
        → Says t between

  -- What a program promises of a call, in terms of all that the objects tell:
  pub record Promise (t : Told E) : Type 0 where
    -- Words that ask for nothing are refused, whatever the objects tell. Only memory may run out before.
    pub words : SaysOfWords (kind_of p t.answer) t.answer t.words
    -- Each answer has its cause, and whatever more its row says.
    pub cause : Changed (changes_of (kind_of p t.answer)) t.before t.after
    pub also : (p.row t.answer).also
    -- First comes what is done. It is done for what the words ask for, and if they ask for nothing, nothing is.
    pub between : WorldState
    pub asked_for : (c : C) → AskFor p.grammar t.words c → DoneFor c (line_by p t.words) t.answer t.before between
    pub nothing : ((c : C) → AskFor p.grammar t.words c → ⊥) → between ≡ t.before
    pub keeps : p.Keeps t.answer t.before between
    -- After what is done comes the message, if there is one.
    pub says : Says t between
