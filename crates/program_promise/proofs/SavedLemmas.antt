-- What a stop finds of a mapfile that is saved, by the record of the calls.
use Rattle.std.proofs.Common.{◌≡◌, ◌≢◌, ◌⊎◌, ℕ, ◌≤◌, Bool, true, false, List, [], ◌++◌, map, length, Option, Result, Ok, Err, refl, ap, inl, inr, subst, arith, append-nil}
use Rattle.fault_count.specs.Schedule.{no_schedule}
use Rattle.crash_site.specs.declared.site.SiteCall.{SiteCall}
use Rattle.crash_site.specs.Files.{File}
use Rattle.crash_site.specs.Calls.{Entry, Done as Returned}
use Rattle.crash_site.specs.CallsMade.{BrokeAt}
use Rattle.crash_site.specs.Folder.{Folder}
use Rattle.crash_site.specs.Disk.{at_rest, disk_after}
use Rattle.crash_site.specs.Left.{until, MayBeLeft}
use Rattle.crash_site.specs.SiteState.{SiteState}
use Rattle.mapfile_save.specs.declared.draft.SaveFault.{SaveFault}
use Rattle.mapfile_save.specs.MapNames.{MapNames, HasOwnDraft}
use Rattle.mapfile_save.specs.Saving.{save_calls, drafting_after_fault, Saves}
use Rattle.mapfile_save.specs.SaveStops.{IsOldOrNew, IsSaved}
use Rattle.mapfile_save.proofs.StopLemmas.{stops_in_save, saved_where_ok}
use Rattle.program_promise.proofs.GainLemmas.{broke_after, broke_named}

-- a site that began so and made these calls
abbrev site_at : Folder → List Entry → (drafting : Bool) → (faults : ℕ) → SiteState
site_at start calls drafting faults = record {
  tells = true;
  start = start;
  calls = calls;
  is_open = false;
  is_drafting = drafting;
  faults = faults;
  is_scheduled = false;
  schedule = no_schedule;
  starved = 0;
}

-- what a save did, by a result without a value
abbrev SavesBy : MapNames → List ℕ → Result (Unit {0}) SaveFault → (old new : SiteState) → Type 0
SavesBy names text result old new = Saves (save_calls names text) false result old new

made_saves : (names : MapNames) (text : List ℕ) (start : Folder) (old new : List Entry)
    → new ≡ old ++ map Returned (save_calls names text)
    → SavesBy names text (Ok tt) (site_at start old false 0) (site_at start new false 0)
made_saves names text start old new grew = record {
  keeps = record { tells = refl; start = λ t. refl; scheduled = refl; later = omega arith };
  made = record { made = λ t. grew; faults = refl };
  broke = tt;
  named = tt;
  image = refl;
  draft = refl;
  draft_left = tt;
}

broke_saves : (names : MapNames) (text : List ℕ) (start : Folder) (at : SiteCall) (old new : List Entry)
    → BrokeAt at (save_calls names text) old new
    → SavesBy names text (Err (record { call = at })) (site_at start old false 0)
    (site_at start new (drafting_after_fault at false) 1)
broke_saves names text start at old new broke = record {
  keeps = record { tells = refl; start = λ t. refl; scheduled = refl; later = omega arith };
  made = tt;
  broke = record { broke = λ t. broke; rose = refl };
  named = broke_named at (save_calls names text) old new broke;
  image = refl;
  draft = tt;
  draft_left = refl;
}

-- a record that went on by a save, whole or up to a call that failed
abbrev pub HasSaved : MapNames → List ℕ → (old new : List Entry) → Type 0
HasSaved names text old new =
    (new ≡ old ++ map Returned (save_calls names text)) ⊎ ((at : SiteCall) × BrokeAt at (save_calls names text) old new)

pub stops_by_save : (names : MapNames) (text : List ℕ) (start : Folder) (old new : List Entry) → HasOwnDraft names
    → HasSaved names text old new
    → (k : ℕ) (found : List ℕ → Option File) → length old ≤ k → k ≤ length new → MayBeLeft start new k found
    → (name : List ℕ) → name ≢ names.draft
    → IsOldOrNew names text (disk_after (at_rest start) old) (disk_after (at_rest start) (until k new)) name
    (found name)
stops_by_save names text start old new own (inl grew) k found le most left name apart =
    stops_in_save names text (Ok tt) (site_at start old false 0) (site_at start new false 0) refl own
    (made_saves names text start old new grew) k found le most left name apart
stops_by_save names text start old new own (inr (at, broke)) k found le most left name apart =
    stops_in_save names text (Err (record { call = at })) (site_at start old false 0)
    (site_at start new (drafting_after_fault at false) 1) refl own
    (broke_saves names text start at old new broke) k found le most left name apart

pub saved_by : (names : MapNames) (text : List ℕ) (start : Folder) (old new : List Entry) → HasOwnDraft names
    → new ≡ old ++ map Returned (save_calls names text)
    → IsSaved names text (disk_after (at_rest start) old) (disk_after (at_rest start) new)
saved_by names text start old new own grew =
    saved_where_ok names text (Ok tt) (site_at start old false 0) (site_at start new false 0)
    (made_saves names text start old new grew) refl own

-- the calls of a save after others
pub save_after : (names : MapNames) (text : List ℕ) (before rest : List Entry) → HasSaved names text [] rest
    → HasSaved names text before (before ++ rest)
save_after names text before rest (inl made) = inl (ap (λ (r : List Entry). before ++ r) made)
save_after names text before rest (inr (at, broke)) =
    let P : List Entry → Type 0 = λ r. BrokeAt at (save_calls names text) r (before ++ rest) in
    inr (at, subst P (append-nil before) (broke_after at (save_calls names text) before [] rest broke))
