-- The row of each answer, from which follows what it says of the words, which count rose, its exit status and its
-- message. No row stands for several answers.
use Rattle.std.specs.Prelude.{◌≡◌, ◌≢◌, ℕ, Bool, List, ◌++◌, codes}
use Rattle.mapfile_text.specs.declared.read.MapError.TheVariants.{NoMemory as OutOfMemory}
use Rattle.crash_site.specs.declared.site.SiteCall.TheVariants.{MapRead}
use Rattle.mapfile_resume.specs.declared.named.NamedFault.{NamedFault}
use Rattle.mapfile_resume.specs.declared.named.NamedFault.TheVariants.{ReadFailed, Absent, Refused, NoMemory as NoRoom}
use Rattle.console_texts.specs.Texts.{error_text, fault_text, message_of}
use Rattle.program_promise.specs.Kinds.{AtCall, AtPut, is_silent_kind}
use Rattle.program_promise.specs.Rows.{AnswerRow, asked_row, brought_row, failed_row, only_where, starved_row, wrong_row}
use Rattle.plan_source.specs.declared.loss.PlanLoss.TheVariants.{Memory, Console}
use Rattle.rescue_plan.specs.declared.run.PlanEnd.{PlanEnd}
use Rattle.rescue_plan.specs.declared.run.PlanEnd.TheVariants.{Whole, Lost}
use Rattle.ddrescueplan_cli.specs.declared.ending.PlanEnding.{PlanEnding}
use Rattle.ddrescueplan_cli.specs.declared.ending.PlanEnding.TheVariants.{Done, Usage, NoMap, MapRefused, SiteFault, ConsoleFault, NoMemory}
use Rattle.ddrescueplan_cli.specs.Names.{program_name}

-- Of the calls on the files only a read of the test map may fail, and lack of memory isn't reported as an error of that
-- map.
abbrev pub row_of : PlanEnding → AnswerRow
row_of Done = asked_row 0
row_of (Usage fault) = wrong_row fault
row_of NoMap = brought_row 1 (codes "test mapfile does not exist")
row_of (MapRefused error) =
    only_where (brought_row 2 (codes "test mapfile: " ++ error_text error)) (error ≢ OutOfMemory)
row_of (SiteFault call) = only_where (failed_row AtCall (fault_text call)) (call ≡ MapRead)
row_of ConsoleFault = failed_row AtPut (codes "cannot write standard output")
row_of NoMemory = starved_row

-- the answer for a test map that couldn't be loaded
abbrev pub refusal_of : NamedFault → PlanEnding
refusal_of ReadFailed = SiteFault MapRead
refusal_of Absent = NoMap
refusal_of (Refused error) = MapRefused error
refusal_of NoRoom = NoMemory

-- the answer for a plan that was put, by how that ended
abbrev pub ending_of : PlanEnd → PlanEnding
ending_of Whole = Done
ending_of (Lost Memory) = NoMemory
ending_of (Lost Console) = ConsoleFault

-- the exit status of an answer
abbrev pub status_of_ending : PlanEnding → ℕ
status_of_ending e = (row_of e).status

-- an answer has no message, since it is what was asked for
abbrev pub is_silent : PlanEnding → Bool
is_silent e = is_silent_kind (row_of e).kind

-- the text on an answer
abbrev pub text_of_ending : PlanEnding → List ℕ
text_of_ending e = (row_of e).text

-- the message on standard error for an answer: the program's name, and the text
abbrev pub message : PlanEnding → List ℕ
message e = message_of program_name (text_of_ending e)
