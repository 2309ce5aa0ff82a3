-- What is done and said for a task over files, by what its work did.
use Rattle.std.proofs.Common.{◌≡◌, ℕ, Bool, not, List, Option, Some, None, refl, sym, ap, ◌∙◌, subst}
use Rattle.mapfile_text.specs.HeadingLines.{HeadingLines}
use Rattle.option_words.specs.Words.{command_line}
use Rattle.option_words.specs.declared.fault.UsageFault.{UsageFault}
use Rattle.option_words.specs.declared.fault.UsageFault.TheVariants.{PlaceTooLarge}
use Rattle.rescue_console.specs.FeedState.{FeedState}
use Rattle.rescue_rules.specs.declared.stop.Stop.{Stop}
use Rattle.rescue_rules.specs.declared.stop.Stop.TheVariants.{SourceLost as InputLost}
use Rattle.rescue_rules.specs.Snapshots.{heading_at}
use Rattle.mapfile_save.specs.MapNames.{MapNames}
use Rattle.ddrescue_words.specs.declared.command.Task.{Task as TaskCode}
use Rattle.ddrescue_words.specs.Command.{Command, Task, Rescue, Fill, Generate, Sample}
use Rattle.ddrescue_words.specs.Asking.{AreInLimits, AskSample, IsAsked, IsInLimits, IsTask, is_quiet, told_by}
use Rattle.faulty_source.specs.SourceState.{SourceState}
use Rattle.crash_site.specs.SiteState.{SiteState}
use Rattle.rescue_console.specs.ClockState.{ClockState}
use Rattle.rescue_console.specs.ConsoleState.{ConsoleState}
use Rattle.ddrescue_cli.specs.Told.{handed}
use Rattle.ddrescue_cli.specs.declared.aim.Aim.{Aim}
use Rattle.ddrescue_cli.specs.declared.aim.Aim.TheVariants.{Rescue as ToRescue, Fill as ToFill, Generate as ToGenerate}
use Rattle.ddrescue_cli.specs.declared.job.Job.{Job}
use Rattle.ddrescue_cli.specs.declared.job.Job.TheVariants.{Files, Sample as SampleJob}
use Rattle.task_files.specs.declared.checked.CheckedCommand.{CheckedCommand}
use Rattle.program_promise.specs.Kinds.{Kind, Failed}
use Rattle.program_promise.specs.Rows.{usage_kind}
use Rattle.program_promise.specs.Causes.{changes_of}
use Rattle.program_promise.specs.World.{WorldState, with_console}
use Rattle.program_promise.specs.Program.{line_by}
use Rattle.program_promise.specs.Promise.{DoneFor, Worked}
use Rattle.program_promise.specs.declared.operand.Operand.{Operand}
use Rattle.task_files.specs.declared.ending.Ending.{Ending}
use Rattle.task_files.specs.declared.ending.Ending.TheVariants.{Usage, SiteFault}
use Rattle.task_files.specs.Names.{first_same_with_optional_map, AreNamedApart, program_name}
use Rattle.task_files.specs.Asked.{names_by}
use Rattle.task_files.specs.Answers.{NameOneFileTwice, failure_after, files_of_task, row_of}
use Rattle.task_files.specs.Steps.{IsChecked, Leaves}
use Rattle.ddrescue_cli.specs.Aims.{IsNamedFor, task_for, WorkedFor}
use Rattle.ddrescue_cli.specs.Jobs.{IsJobFor, IsCheckedFor}
use Rattle.ddrescue_cli.specs.ToldParts.{across}
use Rattle.ddrescue_cli.specs.Words.{same_of}
use Rattle.ddrescue_cli.specs.Ddrescue.{TaskSaid, rescue_program}
use Rattle.task_files.proofs.ApartLemmas.{apart_of, named_apart}
use Rattle.ddrescue_cli.proofs.MadeLemmas.{task_said}
use Rattle.ddrescue_cli.proofs.PromiseLemmas.{fill_done, generate_done, rescue_done}

-- ---- what a task over files asks for

-- what the words ask for, by the code's own task
pub asked_task : (words : List (List ℕ)) (t code : TaskCode) → t ≡ code → IsTask words t → IsTask words code
asked_task words t code is asked = subst (IsTask words) is asked

pub files_for : (aim : Aim) (c : Command) → files_of_task (task_for aim c) ≡ Some c
files_for ToRescue c = refl
files_for (ToFill types) c = refl
files_for ToGenerate c = refl

pub quiet_for : (aim : Aim) (c : Command) → is_quiet (task_for aim c) ≡ c.options.quiet
quiet_for ToRescue c = refl
quiet_for (ToFill types) c = refl
quiet_for ToGenerate c = refl

limits_for : (aim : Aim) (c : Command) → IsInLimits (task_for aim c) → AreInLimits c.options
limits_for ToRescue c h = h
limits_for (ToFill types) c h = h.limits
limits_for ToGenerate c h = h.limits

named_for : (aim : Aim) (c : Command) → IsInLimits (task_for aim c) → IsNamedFor aim c
named_for ToRescue c h = tt
named_for (ToFill types) c h = h.named
named_for ToGenerate c h = h.named

-- ---- what it needs before it opens a file

-- a checked command that was made for a command that the words ask for
pub is_checked_for : (words : List (List ℕ)) (aim : Aim) (checked : CheckedCommand) (c : Command) → IsAsked words (task_for aim c)
    → told_by checked.command ≡ c → checked.names ≡ names_by c → checked.heading ≡ heading_at (command_line program_name words) 0 0
    → first_same_with_optional_map c.infile c.outfile (names_by c) ≡ None → checked.heard ≡ not c.options.quiet → IsCheckedFor words aim checked
is_checked_for words aim checked c asked is names heading different heard =
    let same : c ≡ told_by checked.command = sym is in
    record {
      asked = subst (λ (x : Command). IsAsked words (task_for aim x)) same asked;
      different = subst (λ (x : Command). first_same_with_optional_map x.infile x.outfile (names_by x) ≡ None) same different;
      names = names ∙ ap names_by same;
      heading = heading;
      heard = heard ∙ ap (λ (x : Command). not x.options.quiet) same;
    }

-- what the words ask for, by the code's own job
pub files_job : (words : List (List ℕ)) (job : Job) (checked : CheckedCommand) (aim : Aim) → job ≡ Files checked aim
    → IsJobFor words job → IsCheckedFor words aim checked
files_job words job checked aim is for_words = subst (IsJobFor words) is for_words

pub sample_job : (words : List (List ℕ)) (job : Job) (kib : ℕ) (quiet : Bool) → job ≡ SampleJob kib quiet
    → IsJobFor words job → IsAsked words (Sample kib quiet)
sample_job words job kib quiet is for_words = subst (IsJobFor words) is for_words

pub is_checked : (words : List (List ℕ)) (aim : Aim) (checked : CheckedCommand) → IsCheckedFor words aim checked → IsChecked checked
is_checked words aim checked h =
    let c : Command = told_by checked.command in
    record {
      names = h.names;
      apart = subst (λ (n : Option MapNames). AreNamedApart c.outfile n) (sym h.names)
          (apart_of c.infile c.outfile (names_by c) h.different);
      different = h.different;
      heading = subst (λ (x : HeadingLines). x ≡ heading_at x.line 0 0) (sym h.heading) refl;
      limits = limits_for aim c h.asked.limits;
    }

pub named_by_checked : (words : List (List ℕ)) (aim : Aim) (checked : CheckedCommand) → IsCheckedFor words aim checked
    → IsNamedFor aim (told_by checked.command)
named_by_checked words aim checked h = named_for aim (told_by checked.command) h.asked.limits

-- its words name no file twice
pub never_twice : (words : List (List ℕ)) (aim : Aim) (checked : CheckedCommand) → IsCheckedFor words aim checked
    → (first second : Operand) → NameOneFileTwice words first second → ⊥
never_twice words aim checked h first second twice =
    let c : Command = told_by checked.command in
    named_apart words (task_for aim c) c h.asked (files_for aim c) h.different first second twice

-- and ask for no sample
pub never_sampled : (words : List (List ℕ)) (aim : Aim) (checked : CheckedCommand) → IsCheckedFor words aim checked → (kib : ℕ)
    (quiet : Bool) → AskSample words kib quiet → ⊥
never_sampled words aim checked h kib quiet asks =
    let c : Command = told_by checked.command in
    let over : files_of_task (Sample kib quiet) ≡ Some c =
    ap files_of_task (h.asked.only.alone (Sample kib quiet) asks) ∙ files_for aim c in
    let never : None ≡ Some c = over in cc

-- ---- what is done and said

-- no answer is for a feed or a put
record AsksNoConsole (k : Kind) (n m : ℕ) : Type 0 where
  takes : n ≡ (changes_of k).takes n
  puts : m ≡ (changes_of k).puts m

usage_apart : (fault : UsageFault) (n m : ℕ) → AsksNoConsole (usage_kind fault) n m
usage_apart PlaceTooLarge n m = record { takes = refl; puts = refl }
usage_apart fault n m = record { takes = refl; puts = refl }

call_apart : (earlier : Option Stop) (n m : ℕ) → AsksNoConsole (Failed (failure_after earlier)) n m
call_apart None n m = record { takes = refl; puts = refl }
call_apart (Some InputLost) n m = record { takes = refl; puts = refl }
call_apart (Some stop) n m = record { takes = refl; puts = refl }

apart_by : (e : Ending) (n m : ℕ) → AsksNoConsole (row_of e).kind n m
apart_by (Usage fault) n m = usage_apart fault n m
apart_by (SiteFault call earlier) n m = call_apart earlier n m
apart_by e n m = record { takes = refl; puts = refl }

abbrev worked_by : (words : List (List ℕ)) (task : Task) (e : Ending) (old new : WorldState) → new.feed_ ≡ old.feed_
    → DoneFor rescue_program task (line_by rescue_program words) e old (with_console new old.console) → Leaves e (across old new)
    → Worked rescue_program task words e old (with_console new old.console)
worked_by words task e old new fed done l =
    let apart = apart_by e old.feed_.faults old.console.out.faults in
    record {
      done = done;
      cause = record {
        opens = l.cause.opens;
        reads = l.cause.reads;
        calls = l.cause.calls;
        takes = ap (λ (f : FeedState). f.faults) fed ∙ apart.takes;
        puts = apart.puts;
      };
      also = l.cause.also;
      keeps = record { draft = l.draft; source = l.source; site = l.site; clock = l.clock };
    }

-- by what was done for the words' own command and command line
said_for : (words : List (List ℕ)) (aim : Aim) (c : Command) (e : Ending) (heard : Bool) (old new : WorldState)
    → IsAsked words (task_for aim c) → same_of c ≡ None
    → WorkedFor aim c (command_line program_name words) (not c.options.quiet) heard e (across old new)
    → new.feed_ ≡ old.feed_ → Leaves e (across old new) → TaskSaid words e heard old new
said_for words ToRescue c e heard old new a different w fed l =
    task_said words (Rescue c) e heard old new a
    (worked_by words (Rescue c) e old new fed
    (rescue_done c (command_line program_name words) e old new different (not c.options.quiet) heard a.limits w) l) w.says
said_for words (ToFill types) c e heard old new a different w fed l =
    task_said words (Fill types c) e heard old new a
    (worked_by words (Fill types c) e old new fed
    (fill_done c (command_line program_name words) e old new different types (not c.options.quiet) heard a.limits w) l)
    w.says
said_for words ToGenerate c e heard old new a different w fed l =
    task_said words (Generate c) e heard old new a
    (worked_by words (Generate c) e old new fed
    (generate_done c (command_line program_name words) e old new different (not c.options.quiet) heard a.limits w) l)
    w.says

-- by what was done by a checked command that is for them
pub checked_does : (words : List (List ℕ)) (aim : Aim) (checked : CheckedCommand) (e : Ending) (heard : Bool)
    (old new : WorldState) → IsCheckedFor words aim checked
    → WorkedFor aim (told_by checked.command) checked.heading.line checked.heard heard e (across old new)
    → new.feed_ ≡ old.feed_ → Leaves e (across old new) → TaskSaid words e heard old new
checked_does words aim checked e heard old new h w fed l =
    let c : Command = told_by checked.command in
    let line : checked.heading.line ≡ command_line program_name words = ap (λ (x : HeadingLines). x.line) h.heading in
    said_for words aim c e heard old new h.asked h.different
    (subst (λ (x : Bool). WorkedFor aim c (command_line program_name words) x heard e (across old new)) h.heard
    (subst (λ (x : List ℕ). WorkedFor aim c x checked.heard heard e (across old new)) line w)) fed l

-- and by states that are the same
pub said_after : (words : List (List ℕ)) (e : Ending) (heard : Bool) (old : WorldState) (s s' : SourceState) (d d' : SiteState)
    (k k' : ClockState) (c c' : ConsoleState) → s ≡ s' → d ≡ d' → k ≡ k' → c ≡ c'
    → TaskSaid words e heard old (handed s d k c) → TaskSaid words e heard old (handed s' d' k' c')
said_after words e heard old s s' d d' k k' c c' es ed ek ec said =
    subst (λ (x : ConsoleState). TaskSaid words e heard old (handed s' d' k' x)) ec
    (subst (λ (x : ClockState). TaskSaid words e heard old (handed s' d' x c)) ek
    (subst (λ (x : SiteState). TaskSaid words e heard old (handed s' x k c)) ed
    (subst (λ (x : SourceState). TaskSaid words e heard old (handed x d k c)) es said)))
