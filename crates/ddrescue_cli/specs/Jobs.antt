-- What the words of a call ask for once they are checked, and how a call ends that does nothing.
-- For contracts and proofs: no promise uses it.
use Rattle.std.specs.Prelude.{◌≡◌, ℕ, false, not, List, None}
use Rattle.option_words.specs.Words.{command_line}
use Rattle.rescue_rules.specs.Snapshots.{heading_at}
use Rattle.rescue_core.specs.declared.outside.Outside.{Outside}
use Rattle.ddrescue_words.specs.Command.{Sample as SampleTask}
use Rattle.ddrescue_words.specs.Asking.{IsAsked, told_by}
use Rattle.program_promise.specs.World.{WorldState}
use Rattle.task_files.specs.declared.checked.CheckedCommand.{CheckedCommand}
use Rattle.task_files.specs.declared.ending.Ended.{Ended}
use Rattle.task_files.specs.Names.{program_name}
use Rattle.task_files.specs.Asked.{names_by}
use Rattle.ddrescue_cli.specs.declared.aim.Aim.{Aim}
use Rattle.ddrescue_cli.specs.declared.job.Job.{Job}
use Rattle.ddrescue_cli.specs.declared.job.Job.TheVariants.{Files, Sample}
use Rattle.ddrescue_cli.specs.Aims.{task_for}
use Rattle.ddrescue_cli.specs.Words.{same_of}
use Rattle.ddrescue_cli.specs.Ddrescue.{TaskSaid}

-- A checked command is what the words ask for, with this aim. Its files have different names, the names and the heading
-- of its mapfile are made, and it is heard unless the words ask for silence.
pub record IsCheckedFor (words : List (List ℕ)) (aim : Aim) (checked : CheckedCommand) : Type 0 where
  pub asked : IsAsked words (task_for aim (told_by checked.command))
  pub different : same_of (told_by checked.command) ≡ None
  pub names : checked.names ≡ names_by (told_by checked.command)
  pub heading : checked.heading ≡ heading_at (command_line program_name words) 0 0
  pub heard : checked.heard ≡ not (told_by checked.command).options.quiet

-- a job is what the words ask for
abbrev pub IsJobFor : (words : List (List ℕ)) → Job → Type 0
IsJobFor words (Files checked aim) = IsCheckedFor words aim checked
IsJobFor words (Sample kib quiet) = IsAsked words (SampleTask kib quiet)

-- A call may end so and do nothing, whatever it was handed, if no draft is begun.
abbrev pub IsAnswered : (words : List (List ℕ)) → Ended → Type 0
IsAnswered words ended =
    (w : WorldState) → w.site.is_drafting ≡ false → TaskSaid words ended.ending ended.heard w w

-- the input, the files and the clock are as before
pub record AreUntouched {S D K C : Type 0} (old new : Outside S D K C) : Type 0 where
  pub source : new.source.now ≡ old.source.now
  pub site : new.site.now ≡ old.site.now
  pub clock : new.clock.now ≡ old.clock.now
