-- The work of `ddrescueplan`: the test map is read, and the plan over it is put.
use Rattle.std.specs.Prelude.{◌≡◌, ◌⊎◌, IsTrue, List, [], ◌∷◌, ◌++◌, map, Option, Some, None}
use Rattle.block_list.specs.declared.status.Status.{Status}
use Rattle.mapfile_text.specs.declared.read.MapError.{MapError}
use Rattle.mapfile_text.specs.declared.read.Mode.TheVariants.{Tight}
use Rattle.mapfile_reader.specs.declared.read.ReadMap.{ReadMap}
use Rattle.crash_site.specs.Files.{File}
use Rattle.crash_site.specs.Calls.{Call, Done as Returned}
use Rattle.crash_site.specs.SiteState.{SiteState, files_in}
use Rattle.mapfile_save.specs.Loading.{BeginsLoad, IsLoad}
use Rattle.mapfile_resume.specs.Resuming.{IsReadAs, IsRefusedFor}
use Rattle.program_promise.specs.Work.{Deeds, IsIdle, Faults, WorkStep, Take, Look, Read, Works}
use Rattle.program_promise.specs.World.{WorldState}
use Rattle.program_promise.specs.Printing.{PutsByKind}
use Rattle.rescue_plan.specs.Running.{PutsFirst, PutsPlanBroken, PutsPlanWhole}
use Rattle.ddrescueplan_words.specs.Command.{Command}
use Rattle.ddrescueplan_cli.specs.declared.ending.PlanEnding.{PlanEnding}
use Rattle.ddrescueplan_cli.specs.declared.ending.PlanEnding.TheVariants.{Done, NoMap, MapRefused, SiteFault, ConsoleFault, NoMemory}
use Rattle.ddrescueplan_cli.specs.Answers.{row_of}

-- how faults are answered; no input is opened
abbrev pub plan_faults : Faults PlanEnding
plan_faults = record { call = λ call. SiteFault call; memory = NoMemory; input = NoMemory }

-- the test map isn't there, or its text is no map or is too long
abbrev pub TestMapRefused : (file : Option File) → PlanEnding → Type 0
TestMapRefused file e =
    ((file ≡ None) × (e ≡ NoMap))
    ⊎ ((error : MapError) × IsRefusedFor file Tight error × (e ≡ MapRefused error))

-- the rows before the plan is put: memory may run out, the test map is read, and it may be refused
abbrev pub plan_rows : Command → (file : Option File) → List (WorkStep PlanEnding)
plan_rows c file = Take ∷ Read (Some c.test_map) file ∷ Look (TestMapRefused file) ∷ []

-- After the rows the file is a map, and nothing else is done on the files. The whole plan over it is put, or memory runs
-- out, or a put fails.
pub record RunsPlan (file : Option File) (e : PlanEnding) (d : Deeds) : Type 0 where
  pub test : ReadMap
  pub read : IsReadAs file Tight test
  pub idle : IsIdle d
  pub answer : (e ≡ Done) ⊎ (e ≡ NoMemory) ⊎ (e ≡ ConsoleFault)

-- The whole work for a command, by the test map's file.
abbrev pub PlanWorks : Command → (file : Option File) → PlanEnding → Deeds → Type 0
PlanWorks c file e d = Works plan_faults (plan_rows c file) (RunsPlan file) e d

-- If the files tell, the test map's file is theirs, and so are the calls.
pub record Agrees (c : Command) (file : Option File) (did : Deeds) (old new : SiteState) : Type 0 where
  pub file_is : IsTrue old.tells → file ≡ files_in old c.test_map
  pub calls : IsTrue old.tells → new.calls ≡ old.calls ++ did.gain.calls

-- what is put of the plan over the map that a file is
pub record PutsOver (Puts : (test : List Status) → Type 0) (file : Option File) : Type 0 where
  pub test : ReadMap
  pub read : IsReadAs file Tight test
  pub puts : Puts test.tiles.statuses

-- What is left if memory ran out: nothing was touched; or the test map wasn't read to its end, and nothing is put; or
-- it was, and the plan is put up to there.
pub data LeavesEarly (c : Command) (file : Option File) (did : Deeds) (old new : WorldState) : Type 0 where
  Untouched : new ≡ old → LeavesEarly c file did old new
  Loading : (load : List Call) → BeginsLoad c.test_map file load → did.gain.calls ≡ map Returned load
      → new.console ≡ old.console → LeavesEarly c file did old new
  Planning : (load : List Call) → IsLoad c.test_map file load → did.gain.calls ≡ map Returned load
      → PutsOver (λ test. PutsFirst c test old.console new.console) file → LeavesEarly c file did old new

-- What is left by the answer: on standard output the whole plan, or if the put of a line failed the plan up to that;
-- and after every refusal nothing.
abbrev pub LeavesAs : Command → (file : Option File) → PlanEnding → Deeds → (old new : WorldState) → Type 0
LeavesAs c file e did old new =
    PutsByKind (row_of e).kind (PutsOver (λ test. PutsPlanWhole c test old.console new.console) file)
    (PutsOver (λ test. PutsPlanBroken c test old.console new.console) file) (LeavesEarly c file did old new) old.console new.console
