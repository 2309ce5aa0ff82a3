-- The row of each answer: from it follow its exit status, its message, what it says of the words, and which count rose.
-- No row stands for several answers.
use Rattle.std.specs.Prelude.{◌≡◌, ◌≢◌, ⊤, ℕ, Bool, false, List, [], ◌++◌, Option, Some, None, IfSome, codes}
use Rattle.mapfile_text.specs.declared.read.MapError.TheVariants.{NoStatusLine, NoMemory as OutOfMemory}
use Rattle.faulty_source.specs.SourceState.{SourceState}
use Rattle.crash_site.specs.declared.site.SiteCall.{SiteCall}
use Rattle.crash_site.specs.declared.site.SiteCall.TheVariants.{ImageRead, ImageWrite, MapRemove}
use Rattle.crash_site.specs.SiteState.{SiteState}
use Rattle.mapfile_save.specs.Saving.{drafting_after_fault}
use Rattle.rescue_rules.specs.declared.stop.Stop.{Stop}
use Rattle.rescue_rules.specs.declared.stop.Stop.TheVariants.{SourceLost as InputLost, Site, LimitMet as Limited, NoMemory as NoRoom}
use Rattle.rescue_rules.specs.declared.stop.Limit.{Limit}
use Rattle.rescue_rules.specs.declared.stop.Limit.TheVariants.{TooManyErrors, TooManyAreas, TimedOut}
use Rattle.console_texts.specs.Texts.{numbered_text, error_text, fault_text, message_of}
use Rattle.program_promise.specs.Kinds.{Failure, AtOpen, AtRead, AtCall, AtCallAfterRead, is_silent_kind}
use Rattle.program_promise.specs.Rows.{AnswerRow, asked_row, brought_row, failed_row, only_where, starved_row, usage_row}
use Rattle.program_promise.specs.Causes.{changes_of}
use Rattle.program_promise.specs.declared.operand.Operand.{Operand}
use Rattle.task_files.specs.declared.ending.Which.{Which}
use Rattle.task_files.specs.declared.ending.Which.TheVariants.{DomainMap, TestMap, RunMap}
use Rattle.task_files.specs.declared.ending.Ending.{Ending}
use Rattle.task_files.specs.declared.ending.Ending.TheVariants.{Done, Usage, SameName, NoMap, SourceFault, NotRegular, MapRefused, SourceLost, EmptyPattern, PatternUnread, NoOutput, SiteFault, LimitMet, NoMemory}
use Rattle.ddrescue_words.specs.Command.{Command, Task, Rescue, Fill, Generate, Sample}
use Rattle.ddrescue_words.specs.Asking.{AskTask}
use Rattle.task_files.specs.Names.{first_same_with_optional_map, program_name}
use Rattle.task_files.specs.Asked.{names_by}

-- the files that a task is over, if it is over files
abbrev pub files_of_task : Task → Option Command
files_of_task (Rescue c) = Some c
files_of_task (Fill types c) = Some c
files_of_task (Generate c) = Some c
files_of_task (Sample kib quiet) = None

-- the words ask for something over these files
pub record AskForFiles (words : List (List ℕ)) (command : Command) : Type 0 where
  pub task : Task
  pub asks : AskTask words task
  pub over : files_of_task task ≡ Some command

-- the words name two files with the same name, the first such pair in the order infile, outfile, mapfile, draft
pub record NameOneFileTwice (words : List (List ℕ)) (first second : Operand) : Type 0 where
  pub command : Command
  pub asks : AskForFiles words command
  pub same : first_same_with_optional_map command.infile command.outfile (names_by command) ≡ Some (first, second)

-- ---- the row

-- which map it is
abbrev pub which_text : Which → List ℕ
which_text DomainMap = codes "domain mapfile"
which_text TestMap = codes "test mapfile"
which_text RunMap = codes "mapfile"

-- a limit that a run met
abbrev pub limit_text : Limit → List ℕ
limit_text (TooManyErrors n) = numbered_text (codes "read errors: ") n []
limit_text (TooManyAreas n) = numbered_text (codes "bad areas: ") n []
limit_text (TimedOut ms) = numbered_text (codes "no whole read for ") ms (codes " ms")

-- why a run had stopped
abbrev pub stop_text : Stop → List ℕ
stop_text InputLost = codes "input lost"
stop_text (Site call) = fault_text call
stop_text (Limited limit) = limit_text limit
stop_text NoRoom = codes "out of memory"

-- a call of the last save that failed, of a run that had stopped before
abbrev pub after_text : Option Stop → List ℕ
after_text None = []
after_text (Some stop) = codes " after " ++ stop_text stop

-- what failed, if it was a call and a run had stopped before: after a loss a read had failed, too
abbrev pub failure_after : Option Stop → Failure
failure_after None = AtCall
failure_after (Some InputLost) = AtCallAfterRead
failure_after (Some (Site call)) = AtCall
failure_after (Some (Limited limit)) = AtCall
failure_after (Some NoRoom) = AtCall

-- Lack of memory isn't reported as an error of a map, nor is a mapfile refused that says nothing. After a failed call
-- on the files there is no save whose call could fail.
abbrev pub row_of : Ending → AnswerRow
row_of Done = asked_row 0
row_of (Usage fault) = usage_row fault
row_of (SameName first second) = brought_row 1 (codes "two files have the same name")
row_of (NoMap which) = brought_row 1 (which_text which ++ codes " does not exist")
row_of SourceFault = failed_row AtOpen (codes "cannot open input")
row_of NotRegular = brought_row 1 (codes "output is not a regular file, use --force")
row_of (MapRefused which error) = only_where (brought_row 2 (which_text which ++ codes ": " ++ error_text error))
    ((which ≡ RunMap → error ≢ NoStatusLine) × (error ≢ OutOfMemory))
row_of SourceLost = failed_row AtRead (codes "input lost")
row_of EmptyPattern = brought_row 1 (codes "input is empty")
row_of PatternUnread = brought_row 1 (codes "input cannot be read")
row_of NoOutput = brought_row 1 (codes "output does not exist")
row_of (SiteFault call earlier) = only_where
    (failed_row (failure_after earlier) (fault_text call ++ after_text earlier))
    (IfSome earlier (λ stop. (before : SiteCall) → stop ≢ Site before))
row_of (LimitMet limit) = brought_row 1 (limit_text limit)
row_of NoMemory = starved_row

-- ---- what follows from the rows

-- the exit status
abbrev pub status_of_ending : Ending → ℕ
status_of_ending e = (row_of e).status

-- no message is put for this answer: it is what was asked for
abbrev pub is_silent : Ending → Bool
is_silent e = is_silent_kind (row_of e).kind

-- the text of an answer
abbrev pub text_of_ending : Ending → List ℕ
text_of_ending e = (row_of e).text

-- the message of an answer on standard error
abbrev pub message : Ending → List ℕ
message e = message_of program_name (text_of_ending e)

-- A fault is answered if and only if its count rose by one and no other rose: that of opens of the input that failed,
-- of losses, or of calls on the files that failed. So after an answer that is no fault all are as before. If a run had
-- stopped and a call of the save after the stop failed, the answer is that call's; after a loss the count of the losses
-- rose, too. A count at the end of its type stays there.
pub record Causes (e : Ending) (source source' : SourceState) (site site' : SiteState) : Type 0 where
  pub opens : source'.faults ≡ (changes_of (row_of e).kind).opens source.faults
  pub reads : source'.losses ≡ (changes_of (row_of e).kind).reads source.losses
  pub calls : site'.faults ≡ (changes_of (row_of e).kind).calls site.faults
  pub also : (row_of e).also

-- a call that a step of a rescue makes, or of a filling: none reads the output, nor removes a mapfile
abbrev pub IsRescueCall : SiteCall → Type 0
IsRescueCall ImageRead = ⊥
IsRescueCall MapRemove = ⊥
IsRescueCall call = ⊤

-- a call that a step of a generating makes: none writes the output, nor removes a mapfile
abbrev pub IsGenerateCall : SiteCall → Type 0
IsGenerateCall ImageWrite = ⊥
IsGenerateCall MapRemove = ⊥
IsGenerateCall call = ⊤

-- whether a draft is left begun: one that was begun is so after a failed append or sync
abbrev pub drafting_left : Ending → Bool
drafting_left (SiteFault call earlier) = drafting_after_fault call false
drafting_left e = false
