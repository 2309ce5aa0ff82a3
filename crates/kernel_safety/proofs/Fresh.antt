-- What a site over a kernel and a recorder in memory tells at first.
use Rattle.std.proofs.Common.{◌≡◌, ℕ, List, [], sym, ◌∙◌, ap}
use Rattle.faulty_source.specs.SourceState.{SourceState}
use Rattle.crash_site.specs.SiteState.{SiteState}
use Rattle.kernel_files.specs.declared.memory.Act.{Act}
use Rattle.kernel_files.specs.Log.{told_of}
use Rattle.site_record.specs.Record.{Noted}
use Rattle.site_record.specs.Memory.{nothing_noted}
use Rattle.folder_site.specs.Told.{site_told}
use Rattle.rescue_console.specs.ClockState.{ClockState}
use Rattle.rescue_console.specs.ConsoleState.{ConsoleState}
use Rattle.program_promise.specs.World.{WorldState, told}
use Rattle.task_files.specs.declared.ending.Ending.{Ending}
use Rattle.ddrescue_cli.specs.Told.{Told as ToldOf, handed}

pub fresh_state : (s : SiteState) (acts : List Act) (n : Noted) → acts ≡ [] → n ≡ nothing_noted
    → s ≡ site_told (told_of acts) n → s ≡ site_told (told_of []) nothing_noted
fresh_state s acts n unmade unnoted is =
    is ∙ ap (λ (l : List Act). site_told (told_of l) n) unmade ∙ ap (site_told (told_of [])) unnoted

-- a call over a site that tells the same
pub told_over : (t : ToldOf) (words : List (List ℕ)) (e : Ending) (source : SourceState) (old new : SiteState)
    (clock : ClockState) (console : ConsoleState) (after : WorldState)
    → t ≡ told words e (handed source old clock console) after → new ≡ old
    → t ≡ told words e (handed source new clock console) after
told_over t words e source old new clock console after is same =
    is ∙ ap (λ (s : SiteState). told words e (handed source s clock console) after) (sym same)
