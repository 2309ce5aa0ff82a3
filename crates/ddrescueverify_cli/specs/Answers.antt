-- The row of each answer, from which follows what it says of the words, which count rose, its exit status and its
-- message; and whether a draft is left begun. No row stands for several answers.
use Rattle.std.specs.Prelude.{◌≢◌, ℕ, Bool, true, false, List, ◌++◌, codes}
use Rattle.mapfile_text.specs.declared.read.MapError.TheVariants.{NoStatusLine, NoMemory as OutOfMemory}
use Rattle.mapfile_save.specs.Saving.{drafting_after_fault}
use Rattle.console_texts.specs.Texts.{error_text, fault_text, message_of}
use Rattle.program_promise.specs.Kinds.{Failure, AtOpen, AtRead, AtCall, AtCallAfterRead, AtTake, AtPut, Kind, Asked, Brought, Wrong, Failed, Starved, is_silent_kind}
use Rattle.program_promise.specs.Rows.{AnswerRow, asked_row, brought_row, failed_row, only_where, starved_row, usage_row}
use Rattle.ddrescueverify_cli.specs.declared.ending.Which.{Which}
use Rattle.ddrescueverify_cli.specs.declared.ending.Which.TheVariants.{RunMap}
use Rattle.ddrescueverify_cli.specs.declared.ending.VerifyEnding.{VerifyEnding}
use Rattle.ddrescueverify_cli.specs.declared.ending.VerifyEnding.TheVariants.{Done, Differs, Usage, SameName, NoMap, NoOutput, MapRefused, SourceFault, SourceLost, SiteFault, ConsoleFault, NoMemory}
use Rattle.ddrescueverify_cli.specs.Names.{program_name}

-- which map it is
abbrev pub which_text : Which → List ℕ
which_text RunMap = codes "mapfile"

-- Lack of memory isn't reported as an error of the mapfile, nor is a mapfile refused that says nothing.
abbrev pub row_of : VerifyEnding → AnswerRow
row_of Done = asked_row 0
row_of (Differs bytes) = asked_row 1
row_of (Usage fault) = usage_row fault
row_of (SameName first second) = brought_row 1 (codes "two files have the same name")
row_of NoMap = brought_row 1 (which_text RunMap ++ codes " does not exist")
row_of NoOutput = brought_row 1 (codes "output does not exist")
row_of (MapRefused which error) = only_where (brought_row 2 (which_text which ++ codes ": " ++ error_text error))
    ((error ≢ NoStatusLine) × (error ≢ OutOfMemory))
row_of SourceFault = failed_row AtOpen (codes "cannot open input")
row_of SourceLost = failed_row AtRead (codes "input lost")
row_of (SiteFault call) = failed_row AtCall (fault_text call)
row_of ConsoleFault = failed_row AtPut (codes "cannot write standard output")
row_of NoMemory = starved_row

-- whether a draft is left begun: one that was begun is so after a failed append or sync
abbrev pub drafting_left : VerifyEnding → Bool
drafting_left Done = false
drafting_left (Differs bytes) = false
drafting_left (Usage fault) = false
drafting_left (SameName first second) = false
drafting_left NoMap = false
drafting_left NoOutput = false
drafting_left (MapRefused which error) = false
drafting_left SourceFault = false
drafting_left SourceLost = false
drafting_left (SiteFault call) = drafting_after_fault call false
drafting_left ConsoleFault = false
drafting_left NoMemory = false

-- ---- what follows from the rows

-- the exit status
abbrev pub status_of_ending : VerifyEnding → ℕ
status_of_ending e = (row_of e).status

-- no message is put on standard error for this answer: it is what was asked for, and standard output says it
abbrev pub is_silent : VerifyEnding → Bool
is_silent e = is_silent_kind (row_of e).kind

-- the text of an answer
abbrev pub text_of_ending : VerifyEnding → List ℕ
text_of_ending e = (row_of e).text

-- the message on standard error for an answer
abbrev pub message : VerifyEnding → List ℕ
message e = message_of program_name (text_of_ending e)

-- The map is saved before this failure: only the line is put after the save.
abbrev pub is_saved_failing : Failure → Bool
is_saved_failing AtOpen = false
is_saved_failing AtRead = false
is_saved_failing AtCall = false
is_saved_failing AtCallAfterRead = false
is_saved_failing AtTake = false
is_saved_failing AtPut = true

-- the map is saved before an answer of this kind
abbrev pub is_saved_kind : Kind → Bool
is_saved_kind Asked = true
is_saved_kind Brought = false
is_saved_kind (Wrong fault) = false
is_saved_kind (Failed at) = is_saved_failing at
is_saved_kind Starved = false

-- the map is saved before this answer
abbrev pub is_saved : VerifyEnding → Bool
is_saved e = is_saved_kind (row_of e).kind
