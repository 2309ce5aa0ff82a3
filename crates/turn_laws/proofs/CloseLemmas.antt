-- The close of a safe run.
use Rattle.std.proofs.Common.{◌≡◌, ℕ, ◌-◌, IsTrue, List, [], length, map, Option, Some, None, refl, ap, subst, append-nil}
use Rattle.std.proofs.lemmas.List.Elements.{All-nil}
use Rattle.faulty_source.specs.Journal.{Reading}
use Rattle.crash_site.specs.Files.{File}
use Rattle.crash_site.specs.Calls.{Call, Done}
use Rattle.crash_site.specs.SiteState.{SiteState}
use Rattle.crash_site.specs.SiteChanges.{Keeps}
use Rattle.mapfile_save.specs.SaveStops.{disk_of}
use Rattle.rescue_rules.specs.declared.stop.Stop.{Stop}
use Rattle.rescue_rules.specs.declared.stop.Stop.TheVariants.{SourceLost, Site, LimitMet, NoMemory}
use Rattle.rescue_rules.specs.declared.stop.RunEnd.{RunEnd}
use Rattle.rescue_rules.specs.Setting.{Setting}
use Rattle.rescue_rules.specs.Moves.{IsMove}
use Rattle.rescue_rules.specs.Snapshots.{Snapshot}
use Rattle.rescue_rules.specs.RunCalls.{closing_calls}
use Rattle.rescue_rules.specs.Nameless.{nameless}
use Rattle.rescue_core.specs.RunState.{RunState, setting_in}
use Rattle.rescue_core.specs.Closing.{closing_snapshot, LastSave, Saved, Unsaved}
use Rattle.turn_laws.specs.Safe.{IsHeldIn, IsSafe}
use Rattle.turn_laws.specs.Laws.{IsLeftWithin, CloseIsHeld}
use Rattle.turn_laws.proofs.SafeLemmas.{comes_all}
use Rattle.turn_laws.proofs.SiteLemmas.{Grew, broke_grew, left_within}
use Rattle.turn_laws.proofs.TurnLemmas.{still_is_held}

-- what a run saves at its close, by whatever it was stopped, is its map
pub closing_map : (stop : Option Stop) (r : RunState) → (closing_snapshot stop r).map ≡ r.machine.map
closing_map None r = refl
closing_map (Some stop) r = refl

closing_named : (s : Setting) (r : RunState) (p : Snapshot) → setting_in r ≡ nameless s
    → closing_calls (setting_in r) p ≡ closing_calls s p
closing_named s r p setting = ap (λ (x : Setting). closing_calls x p) setting

pub saves_grew : (s : Setting) (stop : Option Stop) (r : RunState) (end : RunEnd) (site site' : SiteState)
    → setting_in r ≡ nameless s → IsTrue site.tells → LastSave stop r end site site'
    → Grew (closing_calls s (closing_snapshot stop r)) site.calls site'.calls
saves_grew s stop r end site site' setting tells (Saved is makes draft) =
    let calls : List Call = closing_calls (setting_in r) (closing_snapshot stop r) in
    subst (λ (cs : List Call). Grew cs site.calls site'.calls) (closing_named s r (closing_snapshot stop r) setting)
    (record { more = map Done calls; is = makes.made tells; comes = comes_all calls })
saves_grew s stop r end site site' setting tells (Unsaved call is names breaks draft) =
    subst (λ (cs : List Call). Grew cs site.calls site'.calls) (closing_named s r (closing_snapshot stop r) setting)
    (broke_grew call (closing_calls (setting_in r) (closing_snapshot stop r)) site.calls site'.calls (breaks.broke tells))

saves_are_held : (s : Setting) (start : List ℕ) (reads : List Reading) (stop : Option Stop) (r : RunState)
    (end : RunEnd) (site site' : SiteState) (files : List ℕ → Option File) → setting_in r ≡ nameless s
    → IsTrue site.tells → Keeps site site' → LastSave stop r end site site'
    → IsSafe s start reads r.machine (disk_of site) → IsLeftWithin site site' files → IsHeldIn s start reads files
saves_are_held s start reads stop r end site site' files setting tells keeps saves safe l =
    let p : Snapshot = closing_snapshot stop r in
    let g : Grew (closing_calls s p) site.calls site'.calls
    = saves_grew s stop r end site site' setting tells saves in
    subst (λ (rs : List Reading). IsHeldIn s start rs files) (append-nil reads)
    (safe.each [] p g.more (l.moment - length site.calls) files (record { each = All-nil (IsMove s) })
    (closing_map stop r) g.comes (left_within site site' g.more files tells keeps g.is l))

pub close_is_held : CloseIsHeld
close_is_held s start reads None r end site site' files setting tells keeps closes safe l =
    saves_are_held s start reads None r end site site' files setting tells keeps closes safe l
close_is_held s start reads (Some SourceLost) r end site site' files setting tells keeps closes safe l =
    saves_are_held s start reads (Some SourceLost) r end site site' files setting tells keeps closes safe l
close_is_held s start reads (Some (Site call)) r end site site' files setting tells keeps closes safe l =
    subst (λ (rs : List Reading). IsHeldIn s start rs files) (append-nil reads)
    (still_is_held s start reads r.machine site site' files tells keeps closes.1 safe l)
close_is_held s start reads (Some (LimitMet limit)) r end site site' files setting tells keeps closes safe l =
    saves_are_held s start reads (Some (LimitMet limit)) r end site site' files setting tells keeps closes safe l
close_is_held s start reads (Some NoMemory) r end site site' files setting tells keeps closes safe l =
    saves_are_held s start reads (Some NoMemory) r end site site' files setting tells keeps closes safe l
