-- The row of each answer, from which follows what it says of the words, which count rose, its exit status and its
-- message. No row is for several answers.
use Rattle.std.specs.Prelude.{◌≡◌, ◌≢◌, ℕ, Bool, List, ◌++◌, codes}
use Rattle.mapfile_text.specs.declared.read.MapError.TheVariants.{NoMemory as OutOfMemory}
use Rattle.crash_site.specs.declared.site.SiteCall.TheVariants.{MapRead}
use Rattle.mapfile_resume.specs.declared.named.NamedFault.{NamedFault}
use Rattle.mapfile_resume.specs.declared.named.NamedFault.TheVariants.{ReadFailed, Absent, Refused, NoMemory as NoRoom}
use Rattle.console_texts.specs.Texts.{error_text, fault_text, message_of}
use Rattle.program_promise.specs.Kinds.{AtCall, AtPut, is_silent_kind}
use Rattle.program_promise.specs.Rows.{AnswerRow, asked_row, brought_row, failed_row, only_where, starved_row, wrong_row}
use Rattle.ddrescueshow_cli.specs.declared.ending.Which.{Which}
use Rattle.ddrescueshow_cli.specs.declared.ending.Which.TheVariants.{RunMap, DomainMap}
use Rattle.ddrescueshow_cli.specs.declared.ending.ShowEnding.{ShowEnding}
use Rattle.ddrescueshow_cli.specs.declared.ending.ShowEnding.TheVariants.{Done, Usage, TooManyCells, NoMap, MapRefused, SiteFault, ConsoleFault, NoMemory}
use Rattle.ddrescueshow_cli.specs.Names.{program_name}

-- which map it is
abbrev pub which_text : Which → List ℕ
which_text RunMap = codes "mapfile"
which_text DomainMap = codes "domain mapfile"

-- Of the calls on the files only a read of a map may fail, and lack of memory isn't reported as an error of a map.
abbrev pub row_of : ShowEnding → AnswerRow
row_of Done = asked_row 0
row_of (Usage fault) = wrong_row fault
row_of TooManyCells = brought_row 1 (codes "more than 16000 cells in SVG")
row_of (NoMap which) = brought_row 1 (which_text which ++ codes " does not exist")
row_of (MapRefused which error) =
    only_where (brought_row 2 (which_text which ++ codes ": " ++ error_text error)) (error ≢ OutOfMemory)
row_of (SiteFault call) = only_where (failed_row AtCall (fault_text call)) (call ≡ MapRead)
row_of ConsoleFault = failed_row AtPut (codes "cannot write standard output")
row_of NoMemory = starved_row

-- the answer for a map that couldn't be loaded
abbrev pub refusal_of : Which → NamedFault → ShowEnding
refusal_of which ReadFailed = SiteFault MapRead
refusal_of which Absent = NoMap which
refusal_of which (Refused error) = MapRefused which error
refusal_of which NoRoom = NoMemory

-- the exit status
abbrev pub status_of_ending : ShowEnding → ℕ
status_of_ending e = (row_of e).status

-- an answer has no message, since it is what was asked for
abbrev pub is_silent : ShowEnding → Bool
is_silent e = is_silent_kind (row_of e).kind

-- the text of an answer
abbrev pub text_of_ending : ShowEnding → List ℕ
text_of_ending e = (row_of e).text

-- the message on standard error for an answer
abbrev pub message : ShowEnding → List ℕ
message e = message_of program_name (text_of_ending e)
