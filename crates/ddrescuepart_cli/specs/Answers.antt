-- The row of each answer, from which follows what it says of the words, which count rose, its exit status and its
-- message; and what it says of the disk. No row stands for several answers.
use Rattle.std.specs.Prelude.{◌≡◌, ℕ, Bool, true, List, codes, is_some}
use Rattle.console_texts.specs.Texts.{message_of}
use Rattle.program_promise.specs.Kinds.{AtOpen, AtRead, AtPut, is_silent_kind}
use Rattle.program_promise.specs.Rows.{AnswerRow, asked_row, brought_row, failed_row, starved_row, wrong_row}
use Rattle.partition_domain.specs.declared.stop.SearchStop.{SearchStop}
use Rattle.partition_domain.specs.declared.stop.SearchStop.TheVariants.{SourceLost as SearchLost, Refused as SearchRefused}
use Rattle.partition_domain.specs.Part.{next}
use Rattle.partition_domain.specs.Reads.{HasPart, RefusedBy, said_of}
use Rattle.ddrescuepart_cli.specs.declared.ending.PartEnding.{PartEnding}
use Rattle.ddrescuepart_cli.specs.declared.ending.PartEnding.TheVariants.{Done, Usage, SourceFault, SourceLost, Refused, ConsoleFault, NoMemory}
use Rattle.ddrescuepart_cli.specs.Names.{program_name}

-- the row of an answer
abbrev pub row_of : PartEnding → AnswerRow
row_of Done = asked_row 0
row_of (Usage fault) = wrong_row fault
row_of SourceFault = failed_row AtOpen (codes "cannot open input")
row_of SourceLost = failed_row AtRead (codes "input lost")
row_of (Refused refusal) = brought_row (said_of refusal).0 (said_of refusal).1
row_of ConsoleFault = failed_row AtPut (codes "cannot write standard output")
row_of NoMemory = starved_row

-- What each answer says of the records that were read for partition k.
abbrev pub AnswersBy : PartEnding → (k : ℕ) → (records : List (List ℕ)) → Type 0
AnswersBy Done k records = HasPart k records
AnswersBy (Usage fault) k records = ⊥
AnswersBy SourceFault k records = ⊥
AnswersBy SourceLost k records = is_some (next records k) ≡ true
AnswersBy (Refused refusal) k records = RefusedBy refusal k records
AnswersBy ConsoleFault k records = HasPart k records
AnswersBy NoMemory k records = ⊥

-- the answer for a search that stopped
abbrev pub ending_of : SearchStop → PartEnding
ending_of SearchLost = SourceLost
ending_of (SearchRefused refusal) = Refused refusal

-- the exit status
abbrev pub status_of_ending : PartEnding → ℕ
status_of_ending e = (row_of e).status

-- an answer has no message, since it is what was asked for
abbrev pub is_silent : PartEnding → Bool
is_silent e = is_silent_kind (row_of e).kind

-- the text of an answer
abbrev pub text_of_ending : PartEnding → List ℕ
text_of_ending e = (row_of e).text

-- the message on standard error for an answer
abbrev pub message : PartEnding → List ℕ
message e = message_of program_name (text_of_ending e)
