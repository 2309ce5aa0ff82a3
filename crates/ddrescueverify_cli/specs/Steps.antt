-- What the steps of `ddrescueverify` did, whether the objects tell or not.
-- For contracts and proofs: no promise uses it.
use Rattle.std.specs.Prelude.{◌≡◌, ◌≢◌, ◌⊎◌, ⊤, ℕ, IsTrue, List, [], ◌∷◌, ◌++◌, Option, Some, None, Result, Ok, Err}
use Rattle.fault_count.specs.Counts.{Rose}
use Rattle.block_list.specs.declared.status.Status.{Status}
use Rattle.mapfile_text.specs.declared.read.MapError.{MapError}
use Rattle.mapfile_text.specs.declared.read.MapError.TheVariants.{NoStatusLine, NoMemory as OutOfMemory}
use Rattle.crash_site.specs.declared.site.SiteCall.{SiteCall}
use Rattle.crash_site.specs.declared.site.SiteCall.TheVariants.{ImageOpen}
use Rattle.crash_site.specs.Files.{File}
use Rattle.crash_site.specs.Calls.{Entry}
use Rattle.crash_site.specs.SiteState.{SiteState, files_in}
use Rattle.option_words.specs.declared.fault.UsageFault.TheVariants.{PlaceTooLarge}
use Rattle.mapfile_save.specs.MapNames.{MapNames, names_of}
use Rattle.mapfile_save.specs.Saving.{save_calls, drafting_after_fault}
use Rattle.mapfile_resume.specs.Resuming.{IsResumeCall}
use Rattle.rescue_rules.specs.Start.{Stands}
use Rattle.program_promise.specs.Work.{Deeds, Make, Works}
use Rattle.program_promise.specs.Parts.{Did, DidPart}
use Rattle.rescue_verify.specs.declared.halt.Halt.{Halt}
use Rattle.rescue_verify.specs.declared.tally.Tally.{Tally}
use Rattle.rescue_verify.specs.Across.{Across}
use Rattle.rescue_verify.specs.Comparing.{Compares, tally_of}
use Rattle.ddrescueverify_words.specs.declared.options.VerifyOptions.{VerifyOptions}
use Rattle.ddrescueverify_words.specs.Command.{Command, AreInLimits, told_by}
use Rattle.ddrescueverify_cli.specs.declared.ending.VerifyEnding.{VerifyEnding}
use Rattle.ddrescueverify_cli.specs.declared.ending.VerifyEnding.TheVariants.{Usage, NoMap, NoOutput, MapRefused, SiteFault, NoMemory}
use Rattle.ddrescueverify_cli.specs.declared.ending.Which.TheVariants.{RunMap}
use Rattle.ddrescueverify_cli.specs.declared.open.LoadedMap.{LoadedMap}
use Rattle.ddrescueverify_cli.specs.declared.checked.CheckedCommand.{CheckedCommand}
use Rattle.ddrescueverify_cli.specs.Asked.{IsBeyond, heading_of, comparison_of}
use Rattle.program_promise.specs.Operands.{first_same}
use Rattle.ddrescueverify_cli.specs.Outside.{Agrees, Outside}
use Rattle.ddrescueverify_cli.specs.Work.{IsAnswer, Verifies, answer_of_halt, load_rows, opened_rows, output_rows, verify_faults}

-- what a comparison needs before it opens a file
pub record IsChecked (checked : CheckedCommand) : Type 0 where
  pub names : checked.names ≡ names_of (told_by checked.command).mapfile
  pub apart : first_same (told_by checked.command).infile (told_by checked.command).outfile checked.names ≡ None
  pub heading : checked.heading ≡ heading_of checked.heading.line
  pub limits : AreInLimits checked.command.options

-- what the open of the output did
abbrev pub OpensOutput : {T : Type 0} → (outfile : List ℕ) → Result T VerifyEnding → (old new : SiteState) → Type 0
OpensOutput outfile result old new =
    DidPart verify_faults (output_rows outfile) (files_in old outfile) (λ x file. ⊤) result old new

-- why the output isn't open, by the count of failed calls
abbrev pub OutputCause : VerifyEnding → (faults faults' : ℕ) → Type 0
OutputCause e faults faults' = ((e ≡ NoOutput) × (faults' ≡ faults)) ⊎ ((e ≡ SiteFault ImageOpen) × Rose faults faults')

-- what was loaded is what the mapfile stands for, for an input with this length
abbrev pub StandsAs : (end : ℕ) → LoadedMap → Option File → Type 0
StandsAs end loaded file = Stands file end loaded.tiles.statuses (Some loaded.state)

-- what the load of the mapfile did
abbrev pub Loads : (mapfile : List ℕ) → (end : ℕ) → Result LoadedMap VerifyEnding → (old new : SiteState) → Type 0
Loads mapfile end result old new =
    DidPart verify_faults (load_rows mapfile) (files_in old mapfile) (StandsAs end) result old new

-- why no map was loaded from the mapfile, by the count of failed calls
abbrev pub LoadCause : VerifyEnding → (faults faults' : ℕ) → Type 0
LoadCause e faults faults' =
    ((e ≡ NoMemory) × (faults' ≡ faults))
    ⊎ ((e ≡ NoMap) × (faults' ≡ faults))
    ⊎ ((error : MapError) × (e ≡ MapRefused RunMap error) × (error ≢ NoStatusLine) × (error ≢ OutOfMemory)
    × (faults' ≡ faults))
    ⊎ ((call : SiteCall) × (e ≡ SiteFault call) × IsResumeCall call × Rose faults faults')

-- Why a comparison after the mapfile saves nothing: a position has no place, or each has one, and memory ran out before
-- it began, or it stopped.
pub data StopsComparing (o : VerifyOptions) (end : ℕ) (old new : List Status) (e : VerifyEnding) (a : Across)
    : Type 0 where
  Beyond : IsBeyond o end → e ≡ Usage PlaceTooLarge → a.source' ≡ a.source → a.site' ≡ a.site
      → StopsComparing o end old new e a
  Starved : (IsBeyond o end → ⊥) → e ≡ NoMemory → a.source' ≡ a.source → a.site' ≡ a.site
      → StopsComparing o end old new e a
  Halted : (halt : Halt) → (IsBeyond o end → ⊥) → e ≡ answer_of_halt halt
      → Compares (comparison_of o end old) old new (Err halt) a → StopsComparing o end old new e a

-- the save of a text: there are its calls, which are the site's own if it tells
pub record SavesText {T : Type 0} (names : MapNames) (text : List ℕ) (result : Result T VerifyEnding)
    (old new : SiteState) : Type 0 where
  pub calls : List Entry
  pub gained : IsTrue old.tells → new.calls ≡ old.calls ++ calls
  pub did : Did verify_faults (Make (save_calls names text) ∷ []) (λ x. ⊤) result calls

-- why a text wasn't saved: a call of the save failed, after which a draft may be left begun
abbrev pub SaveCause : VerifyEnding → (old new : SiteState) → Type 0
SaveCause e old new =
    (call : SiteCall) × (e ≡ SiteFault call) × Rose old.faults new.faults
    × (new.is_drafting ≡ drafting_after_fault call old.is_drafting)

-- The work went as these steps do: it answers so, or counted that much and answers by that.
abbrev pub DidWork : Command → Outside → Deeds → Result Tally VerifyEnding → Type 0
DidWork c o did (Ok tally) =
    (tally ≡ tally_of o.looks)
    × ((e : VerifyEnding) → IsAnswer c.options.quiet tally e
    → Works verify_faults (opened_rows c o.found o.end) (Verifies c o.line o.found o.end o.looks) e did)
DidWork c o did (Err e) =
    Works verify_faults (opened_rows c o.found o.end) (Verifies c o.line o.found o.end o.looks) e did

-- What the work did once the names were checked: there is an outside that agrees with what the objects tell.
pub record WentOn (c : Command) (line : List ℕ) (result : Result Tally VerifyEnding) (a : Across) : Type 0 where
  pub outside : Outside
  pub did : Deeds
  pub line_is : outside.line ≡ line
  pub agrees : Agrees c outside did a
  pub works : DidWork c outside did result
