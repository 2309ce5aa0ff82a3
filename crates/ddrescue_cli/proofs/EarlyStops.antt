-- A sweep that ended before its first piece keeps what any promise says of the mapfile that stood there before.
use Rattle.std.proofs.Common.{◌≡◌, ℕ, ◌≤◌, zero, suc, Bool, List, [], take, Option, refl, sym, subst, arith}
use Rattle.block_list.specs.declared.status.Status.{Status}
use Rattle.mapfile_text.specs.declared.state.MapState.{MapState}
use Rattle.crash_site.specs.Files.{File, bytes_of}
use Rattle.crash_site.specs.Calls.{Entry}
use Rattle.rescue_rules.specs.Setting.{Setting}
use Rattle.rescue_rules.specs.Snapshots.{Snapshot}
use Rattle.rescue_rules.specs.Stops.{Before, files_before, files_after, returned}
use Rattle.rescue_rules.specs.StopsBy.{IsSave, IsKeptBy, KeepsOver, StopsBy}

-- of no saves the mapfile that is found is the one that stood there
only_old : (old : Option File) (began : List Status) (line : List ℕ) (n : ℕ) (found : Option File) (statuses : List Status)
    → IsSave old began line [] n found statuses → n ≡ zero
only_old old began line zero found statuses h = refl
only_old old began line (suc n) found statuses h = absurd (cc)

module _ (saves : List Status → Option MapState → List Snapshot)
    (promise : List ℕ → List Status → Option MapState → ℕ → List Status → List ℕ → Type 0) (makes : Bool) (b : Before)
    (s : Setting) (calls : List Entry) where
  -- what a run keeps that saves nothing
  abbrev pub KeepsOld : ℕ → (List ℕ → Option File) → Type 0
  KeepsOld k files = KeepsOver (λ began shown. []) (λ old began shown number map image. map ≡ began) makes b
      s calls k files

  -- what is promised of the mapfile that stood there, wherever such a run is stopped
  abbrev pub PromisesOld : Type 0
  PromisesOld = (k : ℕ) (files : List ℕ → Option File) (o : KeepsOld k files) (began : List Status)
      (state : Option MapState) → promise o.was.bytes began state zero began (bytes_of (files s.outfile))

  kept_early : (bytes : List ℕ) (k : ℕ) (files : List ℕ → Option File) (began : List Status) (state : Option MapState)
      → promise bytes began state zero began (bytes_of (files s.outfile))
      → IsKeptBy [] (λ number map image. map ≡ began) b s calls began k files
      → IsKeptBy (saves began state) (promise bytes began state) b s calls began k files
  kept_early bytes k files began state old i =
      let none : i.number ≡ zero =
      only_old (files_before b s.names.map) began s.line i.number (files s.names.map) i.statuses i.is_save in
      let here : IsSave (files_before b s.names.map) began s.line [] zero (files s.names.map) i.statuses =
      subst (λ (n : ℕ). IsSave (files_before b s.names.map) began s.line [] n (files s.names.map) i.statuses) none i.is_save in
      record {
        number = zero;
        no_older = subst (λ (n : ℕ). returned (take k calls) ≤ n) none i.no_older;
        no_newer = omega arith;
        statuses = i.statuses;
        is_save = here;
        shows = i.shows;
        stands = i.stands;
        held = subst (λ (m : List Status). promise bytes began state zero m (bytes_of (files s.outfile)))
            (sym i.held) old;
      }

  abbrev over_early : PromisesOld → (k : ℕ) (files : List ℕ → Option File) → KeepsOld k files
      → KeepsOver saves promise makes b s calls k files
  over_early old k files o = record {
    was = o.was;
    could = o.could;
    output = o.output;
    mapfile = o.mapfile;
    there = o.there;
    kept = λ began state stands. kept_early o.was.bytes k files began state (old k files o began state)
        (o.kept began state stands);
    unwritten = o.unwritten;
  }

  pub early_stops : PromisesOld
      → StopsBy (λ began shown. []) (λ old began shown number map image. map ≡ began) makes b s calls
      → StopsBy saves promise makes b s calls
  early_stops old h = record {
    before = h.before;
    past = λ stop is. over_early old stop.k stop.files (h.past stop is);
    reads = λ k within is.
        let o = h.reads k within is in (over_early old k (files_after b (take k calls)) o.0, o.1);
    others = h.others;
  }
