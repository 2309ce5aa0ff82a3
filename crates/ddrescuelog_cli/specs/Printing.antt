-- What is put on standard output.
use Rattle.std.specs.Prelude.{◌≡◌, ◌≢◌, ℕ, ◌<◌, ◌≤◌, Bool, true, false, List, [], ◌++◌, length}
use Rattle.std.specs.List.{All, concat}
use Rattle.rescue_console.specs.ConsoleState.{ConsoleState, Puts, PutsPart}
use Rattle.rescue_console.specs.Speaking.{SpeaksOn, out_pieces}
use Rattle.rescue_console.specs.declared.console.Channel.TheVariants.{Out}
use Rattle.program_promise.specs.Printing.{PutsByKind}
use Rattle.ddrescuelog_cli.specs.declared.ending.LogEnding.{LogEnding}
use Rattle.ddrescuelog_cli.specs.Answers.{row_of}

-- a piece of a text: it has a byte, and no more than 4,096
abbrev pub IsPiece : List ℕ → Type 0
IsPiece piece = (0 < length piece) × (length piece ≤ 4096)

-- A text is put in pieces, each by one put. If not all of it is heard, a put failed, and that was the last one.
pub record PutsPieces (text : List ℕ) (heard : Bool) (old new : ConsoleState) : Type 0 where
  pub pieces : List (List ℕ)
  pub together : concat pieces ≡ text
  pub each : All IsPiece pieces
  pub speaks : SpeaksOn (out_pieces pieces) true heard old new

-- A line was added to a text: what was in the buffer was put, or nothing, and what wasn't is in the buffer.
pub record Adds (line before now : List ℕ) (old new : ConsoleState) : Type 0 where
  pub part : List ℕ
  pub puts : PutsPieces part true old new
  pub split : part ++ now ≡ before ++ line

-- the whole text of a mode that has one; a mode that has none puts nothing
abbrev pub PutsWhole : (prints_text : Bool) → (text : List ℕ) → (old new : ConsoleState) → Type 0
PutsWhole true text old new = Puts Out text old new
PutsWhole false text old new = new ≡ old

-- What is put by the answer: the text of the mode, or if a put failed a beginning of it, which only a text that has a
-- byte can do; and after every refusal and every other fault nothing.
abbrev pub PutsAs : (prints_text : Bool) → LogEnding → (text : List ℕ) → (old new : ConsoleState) → Type 0
PutsAs prints_text e text old new =
    PutsByKind (row_of e).kind (PutsWhole prints_text text old new) ((text ≢ []) × PutsPart Out text old new)
    (new ≡ old) old new

-- What is put, by the answer, of a text that is put in pieces: all of it, or if a put failed not all of it; and after
-- every refusal and every other fault nothing.
abbrev pub PutsInPieces : LogEnding → (text : List ℕ) → (old new : ConsoleState) → Type 0
PutsInPieces e text old new =
    PutsByKind (row_of e).kind (PutsPieces text true old new) (PutsPieces text false old new) (new ≡ old) old new
