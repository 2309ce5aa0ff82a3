-- An answer as a row: its kind, the exit status, the text on it, and what else holds of it. What the answer says of the
-- words, which count rose and whether there is a message follow from its kind alone.
use Rattle.std.specs.Prelude.{⊤, ℕ, List, [], codes}
use Rattle.option_words.specs.declared.fault.UsageFault.{UsageFault}
use Rattle.option_words.specs.declared.fault.UsageFault.TheVariants.{Word, BadValue, Conflict, Modes, Operands, PlaceTooLarge}
use Rattle.console_texts.specs.Texts.{usage_text}
use Rattle.program_promise.specs.Kinds.{Failure, Kind, Asked, Brought, Wrong, Failed, Starved}

-- an answer's row
pub record AnswerRow : Type 1 where
  pub kind : Kind
  pub status : ℕ
  pub text : List ℕ
  pub also : Type 0

-- the row of an answer that is what was asked for
abbrev pub asked_row : (status : ℕ) → AnswerRow
asked_row status = record { kind = Asked; status = status; text = []; also = ⊤ }

-- the row of an answer that what is there leads to
abbrev pub brought_row : (status : ℕ) → (text : List ℕ) → AnswerRow
brought_row status text = record { kind = Brought; status = status; text = text; also = ⊤ }

-- words that are refused, of status 1
abbrev pub wrong_row : UsageFault → AnswerRow
wrong_row fault = record { kind = Wrong fault; status = 1; text = usage_text fault; also = ⊤ }

-- the kind of a refusal of a program that looks at places, of which one that is too large is no fault of the words
abbrev pub usage_kind : UsageFault → Kind
usage_kind (Word fault) = Wrong (Word fault)
usage_kind (BadValue n) = Wrong (BadValue n)
usage_kind (Conflict n) = Wrong (Conflict n)
usage_kind (Modes given) = Wrong (Modes given)
usage_kind (Operands given) = Wrong (Operands given)
usage_kind PlaceTooLarge = Brought

-- words that are refused by a program that looks at places, of status 1
abbrev pub usage_row : UsageFault → AnswerRow
usage_row fault = record { kind = usage_kind fault; status = 1; text = usage_text fault; also = ⊤ }

-- what failed, of status 1
abbrev pub failed_row : Failure → (text : List ℕ) → AnswerRow
failed_row at text = record { kind = Failed at; status = 1; text = text; also = ⊤ }

-- lack of memory, of status 4
abbrev pub starved_row : AnswerRow
starved_row = record { kind = Starved; status = 4; text = codes "out of memory"; also = ⊤ }

-- a row of which something more holds
abbrev pub only_where : AnswerRow → Type 0 → AnswerRow
only_where r holds = record { kind = r.kind; status = r.status; text = r.text; also = holds }
