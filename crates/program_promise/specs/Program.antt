-- A program, as data: how its words are read, how it answers, and its work.
use Rattle.std.specs.Prelude.{ℕ, Bool, List}
use Rattle.option_words.specs.Words.{command_line}
use Rattle.option_words.specs.Grammar.{Grammar}
use Rattle.console_texts.specs.Texts.{message_of}
use Rattle.program_promise.specs.Work.{Deeds, Faults, WorkStep}
use Rattle.program_promise.specs.World.{WorldState}
use Rattle.program_promise.specs.Kinds.{Kind, is_silent_kind}
use Rattle.program_promise.specs.Rows.{AnswerRow}

-- C is what its words ask for, E how it ended, and O what its work found outside of it.
pub record Program (C E O : Type 0) : Type 1 where
  -- The program's name and its grammar;
  pub name : List ℕ
  pub grammar : Grammar C
  -- the row of each answer, and the answers for faults;
  pub row : E → AnswerRow
  pub faults : Faults E
  -- which answers a command may have;
  pub Fits : C → E → Type 0
  -- the work: its rows, and what is run after them, if the command line may be shown;
  pub rows : C → O → List (WorkStep E)
  pub Run : C → (line : List ℕ) → O → E → Deeds → Type 0
  -- that what was found and done is what the objects tell, before and after the work;
  pub Agrees : C → O → Deeds → (old new : WorldState) → Type 0
  -- what the work leaves: what is put on standard output, if the command line may be shown, and whatever the answer
  -- says besides of the feed, of the files and of what a stop may find;
  pub Leaves : C → (line : List ℕ) → O → E → Deeds → (old new : WorldState) → Type 0
  -- what stays so, whatever the words ask for.
  pub Keeps : E → (old new : WorldState) → Type 0

-- the kind of an answer
abbrev pub kind_of : {C E O : Type 0} → Program C E O → E → Kind
kind_of p e = (p.row e).kind

-- whether an answer has no message
abbrev pub is_silent_of : {C E O : Type 0} → Program C E O → E → Bool
is_silent_of p e = is_silent_kind (p.row e).kind

-- the message of an answer on standard error
abbrev pub message_by : {C E O : Type 0} → Program C E O → E → List ℕ
message_by p e = message_of p.name (p.row e).text

-- the command line
abbrev pub line_by : {C E O : Type 0} → Program C E O → (words : List (List ℕ)) → List ℕ
line_by p words = command_line p.name words
