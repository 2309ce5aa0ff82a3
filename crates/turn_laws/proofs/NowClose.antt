-- The last save of a run leaves it safe as its files stand, wherever it stopped.
use Rattle.std.proofs.Common.{◌≡◌, ℕ, Bool, true, IsTrue, if◌then◌else◌, List, [], ◌∷◌, Option, Some, None, inl, sym, subst}
use Rattle.faulty_source.specs.Journal.{Reading}
use Rattle.crash_site.specs.Calls.{Call, image_sync}
use Rattle.crash_site.specs.SiteState.{SiteState}
use Rattle.crash_site.specs.SiteChanges.{Keeps}
use Rattle.mapfile_save.specs.SaveStops.{disk_of}
use Rattle.mapfile_save.specs.Saving.{save_calls}
use Rattle.rescue_rules.specs.declared.stop.Stop.{Stop}
use Rattle.rescue_rules.specs.declared.stop.Stop.TheVariants.{SourceLost, Site, LimitMet, NoMemory}
use Rattle.rescue_rules.specs.declared.stop.RunEnd.{RunEnd}
use Rattle.rescue_rules.specs.Setting.{Setting}
use Rattle.rescue_rules.specs.Snapshots.{Snapshot, text_of}
use Rattle.rescue_rules.specs.RunCalls.{closing_calls}
use Rattle.rescue_rules.specs.Laws.{AreThreeNames}
use Rattle.rescue_rules.specs.RunStops.{ComesTo}
use Rattle.rescue_rules.specs.Nameless.{nameless}
use Rattle.rescue_core.specs.RunState.{RunState, setting_in}
use Rattle.rescue_core.specs.Closing.{LastSave, closing_snapshot}
use Rattle.turn_laws.specs.SafeNow.{IsSafeNow}
use Rattle.turn_laws.specs.NowLaws.{StaysSafeNow, CloseStaysSafeNow}
use Rattle.turn_laws.proofs.SiteLemmas.{Grew}
use Rattle.turn_laws.proofs.CloseLemmas.{closing_map, saves_grew}
use Rattle.turn_laws.proofs.NowSaves.{safe_after, site_safe}

closes_now : (s : Setting) (start : List ℕ) (reads : List Reading) (stop : Option Stop) (r : RunState) (end : RunEnd)
    (site site' : SiteState) → s.has_mapfile ≡ true → AreThreeNames s → setting_in r ≡ nameless s → IsTrue site.tells
    → Keeps site site' → LastSave stop r end site site' → IsSafeNow s start reads r.machine (disk_of site)
    → StaysSafeNow s start reads r.machine site'
closes_now s start reads stop r end site site' on three setting tells keeps saves n =
    let p : Snapshot = closing_snapshot stop r in
    let save : List Call = save_calls s.names (text_of s.line p) in
    let g : Grew (closing_calls s p) site.calls site'.calls = saves_grew s stop r end site site' setting tells saves in
    let comes : ComesTo save g.more =
    subst (λ (b : Bool). ComesTo (if b then save else image_sync ∷ []) g.more) on g.comes in
    site_safe s start reads r.machine site site' g.more tells keeps g.is
    (safe_after s start reads r.machine p (disk_of site) g.more three (closing_map stop r) n comes)

pub close_stays_safe_now : CloseStaysSafeNow
close_stays_safe_now s start reads None r end site site' on three setting tells keeps closes n =
    closes_now s start reads None r end site site' on three setting tells keeps closes n
close_stays_safe_now s start reads (Some SourceLost) r end site site' on three setting tells keeps closes n =
    closes_now s start reads (Some SourceLost) r end site site' on three setting tells keeps closes n
close_stays_safe_now s start reads (Some (Site call)) r end site site' on three setting tells keeps closes n =
    inl (subst (λ (x : SiteState). IsSafeNow s start reads r.machine (disk_of x)) (sym closes.1) n)
close_stays_safe_now s start reads (Some (LimitMet limit)) r end site site' on three setting tells keeps closes n =
    closes_now s start reads (Some (LimitMet limit)) r end site site' on three setting tells keeps closes n
close_stays_safe_now s start reads (Some NoMemory) r end site site' on three setting tells keeps closes n =
    closes_now s start reads (Some NoMemory) r end site site' on three setting tells keeps closes n
