-- A run after a barrier keeps what was promised at whatever moment it is stopped.
use Rattle.std.proofs.Common.{◌≡◌, ℕ, ◌+◌, List, [], ◌∷◌, take, refl, sym, subst, inl}
use Rattle.std.specs.List.{count_by}
use Rattle.block_list.specs.declared.status.Status.{Status}
use Rattle.crash_site.specs.Files.{bytes_of}
use Rattle.crash_site.specs.Calls.{Call, Entry, Done, Failed}
use Rattle.rescue_rules.specs.Moves.{state_after}
use Rattle.rescue_rules.specs.Snapshots.{Snapshot, last_snapshot, snapshots}
use Rattle.rescue_rules.specs.Held.{Held}
use Rattle.rescue_rules.specs.Stops.{is_settle, is_write}
use Rattle.rescue_rules.specs.StopsBy.{is_publish}
use Rattle.rescue_rules.specs.Deeds.{Deed}
use Rattle.rescue_rules.specs.RunDeeds.{run_deeds}
use Rattle.rescue_rules.specs.RunStops.{ComesTo, RunPromise, promise_of_run, RunStopsSafely}
use Rattle.rescue_rules.proofs.CutLemmas.{Cut}
use Rattle.rescue_rules.proofs.SaveStages.{Doing}
use Rattle.rescue_rules.proofs.DeedStages.{Kept, deeds_stop_safely}
use Rattle.rescue_rules.proofs.KeepLemmas.{saved_map_is, Promise, Free, keeps_up}
use Rattle.rescue_rules.proofs.RunDeedLemmas.{run_is_deeds, Holding, Writable, run_outlasts, run_first, run_keeps_up}

pub comes_cut : (calls : List Call) (es : List Entry) → ComesTo calls es → Cut calls es
comes_cut calls [] h = tt
comes_cut [] (e ∷ es) h = absurd h
comes_cut (c ∷ cs) (Done x ∷ es) h = (h.0, comes_cut cs es h.1)
comes_cut (c ∷ cs) (Failed x steps ∷ es) h = (inl h.0, h.1)

-- what a run has to keep, without its reads
abbrev doing_of : RunPromise → Doing
doing_of a = record {
  s = a.s;
  mapfile = a.mapfile;
  began = a.began;
  start = a.start;
  kind = a.kind;
  saves = a.saves;
}

pub run_stops_safely : RunStopsSafely
run_stops_safely s began m es d calls k files ok on three order alike run rests comes leaves =
    let a : RunPromise = promise_of_run s began m es d in
    let deeds : List Deed = run_deeds s m es in
    let last : Snapshot = last_snapshot s (state_after s m es) in
    let P : ℕ → List ℕ → Type 0 = Promise (Holding s ok a.reads a.start) (Writable s ok a.reads a.start) began a.saves in
    let F : ℕ → ℕ → Type 0 = Free (Holding s ok a.reads a.start) (Writable s ok a.reads a.start) began a.saves in
    let saves : a.saves ≡ snapshots s m es = refl in
    let all = sym (run_is_deeds s m es).saves in
    let found : Kept P (doing_of a) (count_by is_settle (take k calls)) (count_by is_publish (take (k + 1) calls))
    (count_by is_write (take (k + 1) calls)) files
    = deeds_stop_safely P F (doing_of a) d
    (record { rests = rests; mapfile = refl; start = refl; kind = refl })
    (run_first s ok a.reads a.start began m es refl order alike run) deeds last calls k files on three
    (run_outlasts s ok a.reads a.start began a.saves) all
    (keeps_up (Holding s ok a.reads a.start) (Writable s ok a.reads a.start) began a.saves deeds last 0 began a.start []
    refl all refl (run_keeps_up s ok a.reads a.start began m es refl order alike run))
    (subst (λ (l : List Call). Cut l calls) (sym (run_is_deeds s m es).calls) (comes_cut _ calls comes)) leaves in
    record {
      number = found.number;
      no_older = found.no_older;
      no_newer = found.no_newer;
      statuses = found.statuses;
      is_save = found.is_save;
      held = subst (λ (t : List Status). Held s a.reads a.start t (bytes_of (files s.outfile)))
          (saved_map_is a.mapfile began s.line a.saves found.number (files s.names.map) found.statuses found.is_save)
          found.held;
      unwritten = found.unwritten;
      there = found.there;
    }
