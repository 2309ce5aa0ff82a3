-- What the end of a run saves.
use Rattle.std.proofs.Common.{◌≡◌, false, List, [], ◌∷◌, Option, Some, None, Ok, Err, refl, ap, subst, ◌∙◌, MatchOption}
use Rattle.block_list.specs.declared.status.Status.{Status}
use Rattle.mapfile_text.specs.declared.state.MapState.{MapState}
use Rattle.mapfile_text.specs.declared.state.Current.TheVariants.{Finished}
use Rattle.crash_site.specs.SiteState.{SiteState}
use Rattle.crash_site.specs.SiteChanges.{Makes, Breaks}
use Rattle.mapfile_save.specs.declared.draft.SaveFault.{SaveFault}
use Rattle.mapfile_save.specs.Saving.{IsNameIn, drafting_after_fault, Saves as SavesMap}
use Rattle.rescue_rules.specs.declared.stop.Stop.{Stop}
use Rattle.rescue_rules.specs.declared.stop.RunEnd.{RunEnd}
use Rattle.rescue_rules.specs.declared.stop.RunEnd.TheVariants.{SaveFailed}
use Rattle.rescue_rules.specs.declared.report.Counts.{Counts}
use Rattle.rescue_rules.specs.declared.tally.Tally.{Tally}
use Rattle.rescue_rules.specs.Counts.{counts_of}
use Rattle.rescue_rules.specs.Machine.{is_live}
use Rattle.rescue_rules.specs.Snapshots.{Snapshot, snapshot_with}
use Rattle.rescue_rules.specs.Lines.{phase_front, last_front, report_text, report_with, is_done}
use Rattle.rescue_rules.specs.Work.{end_of}
use Rattle.rescue_console.specs.Speaking.{SpokenPiece, out_pieces}
use Rattle.rescue_core.specs.declared.keeper.Keeper.{Keeper}
use Rattle.rescue_core.specs.RunState.{RunState, setting_in}
use Rattle.rescue_core.specs.Keeping.{last_calls}
use Rattle.rescue_core.specs.Closing.{closing_with, LastCalls, Saved, Unsaved}

-- what a run shows last
abbrev pub ShowsLast : Option Stop → (shown last : MapState) → Type 0
ShowsLast stop shown last = MatchOption stop (last ≡ record shown { current = Finished; pass = 1 }) (λ _. last ≡ shown)

-- what a save says of a map, if this is shown
abbrev pub with_shown : List Status → Tally → MapState → Snapshot
with_shown map t shown = snapshot_with map (record t { shown = shown })

closing_is : (stop : Option Stop) (map : List Status) (t : Tally) (last : MapState) → ShowsLast stop t.shown last
    → with_shown map t last ≡ closing_with stop map t
closing_is None map t last is = ap (with_shown map t) is
closing_is (Some stop) map t last is = ap (with_shown map t) is

pub saves_whole : {T : Type 0} (stop : Option Stop) (k : Keeper) (map : List Status) (last : MapState) (saved : T)
    (site site' : SiteState) → ShowsLast stop k.tally.shown last
    → SavesMap (last_calls k (with_shown map k.tally last)) false (Ok saved) site site'
    → LastCalls (last_calls k (closing_with stop map k.tally)) stop (end_of stop) site site'
saves_whole stop k map last saved site site' is s =
    Saved refl
    (subst (λ (p : Snapshot). Makes (last_calls k p) site site') (closing_is stop map k.tally last is) s.made) s.draft

pub saves_broken : {T : Type 0} (stop : Option Stop) (k : Keeper) (map : List Status) (last : MapState) (fault : SaveFault)
    (site site' : SiteState) → ShowsLast stop k.tally.shown last → site.is_drafting ≡ false
    → SavesMap {T = T} (last_calls k (with_shown map k.tally last)) false (Err fault) site site'
    → LastCalls (last_calls k (closing_with stop map k.tally)) stop (SaveFailed fault.call stop) site site'
saves_broken stop k map last fault site site' is none s =
    let closing = closing_is stop map k.tally last is in
    Unsaved fault.call refl
    (subst (λ (p : Snapshot). IsNameIn fault.call (last_calls k p)) closing s.named)
    (subst (λ (p : Snapshot). Breaks fault.call (last_calls k p) site site') closing s.broke)
    (s.draft_left ∙ ap (drafting_after_fault fault.call) none)

-- the line of a run after an event, and the last one
abbrev pub said_with : Counts → Tally → List SpokenPiece
said_with counts t = out_pieces (report_text (phase_front t.shown) (report_with counts t) ∷ [])

abbrev pub said_in : RunState → List SpokenPiece
said_in r = said_with (counts_of (is_live (setting_in r) r.machine) r.machine.map) r.machine.tally

abbrev pub last_with : Counts → RunEnd → Tally → List SpokenPiece
last_with counts end t = out_pieces (report_text (last_front (is_done end)) (report_with counts t) ∷ [])
