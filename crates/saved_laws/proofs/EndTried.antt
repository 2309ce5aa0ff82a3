-- What a rescue asked for in vain is tried at each stop after its end.
use Rattle.std.proofs.Common.{◌≡◌, ⊎_elim, ℕ, zero, suc, ◌+◌, ◌≤◌, Bool, true, false, if◌then◌else◌, List, [], ◌∷◌, ◌++◌, length, take, map, Option, Some, refl, sym, ap, subst, arith}
use Rattle.std.specs.List.{slice_get}
use Rattle.std.proofs.Math.Seq.{take-length}
use Rattle.std.proofs.lemmas.List.{map-append}
use Rattle.std.proofs.lemmas.Option.{none-some}
use Rattle.block_list.specs.declared.status.Status.{Status}
use Rattle.faulty_source.specs.Journal.{Reading}
use Rattle.crash_site.specs.Files.{File}
use Rattle.crash_site.specs.Calls.{Call, Entry, Done}
use Rattle.mapfile_save.specs.Saving.{save_calls}
use Rattle.rescue_rules.specs.Setting.{Setting, IsSensible}
use Rattle.rescue_rules.specs.Start.{Stands}
use Rattle.rescue_rules.specs.Machine.{Machine}
use Rattle.rescue_rules.specs.MachineLaws.{IsInOrder}
use Rattle.rescue_rules.specs.Step.{Event}
use Rattle.rescue_rules.specs.Moves.{move_of, state_after, IsRun}
use Rattle.rescue_rules.specs.Events.{began_at, reads_of}
use Rattle.rescue_rules.specs.RunCalls.{due_calls, run_calls, end_calls}
use Rattle.rescue_rules.specs.Snapshots.{Snapshot, text_of, snapshot_of, is_due, last_snapshot, snapshots}
use Rattle.rescue_rules.specs.Stops.{files_before, is_settle, LeftBy}
use Rattle.rescue_rules.specs.StopsBy.{IsSave, saves_of}
use Rattle.rescue_rules.specs.Work.{begins, events_in}
use Rattle.rescue_rules.proofs.FinishLemmas.{run_steps}
use Rattle.rescue_rules.proofs.MapfileLemmas.{end_is, mapfile_is}
use Rattle.rescue_rules.proofs.MoveLemmas.{run_rest}
use Rattle.rescue_rules.proofs.MoveStages.{due_first}
use Rattle.rescue_rules.proofs.ReadyLemmas.{order_over}
use Rattle.rescue_rules.proofs.SnapshotLemmas.{one_of}
use Rattle.ddrescue_cli.specs.ToldParts.{files_of}
use Rattle.rescue_safety.specs.Rescue.{Rescue}
use Rattle.rescue_safety.proofs.BegunLemmas.{count_both}
use Rattle.rescue_safety.proofs.ClaimLemmas.{Ran, goes_ran}
use Rattle.rescue_safety.proofs.SafeLemmas.{s, g, b, on, ok, goes, over, calls_are, map_is, seen_alone}
use Rattle.rescue_safety.proofs.SettleLemmas.{settled, save_settled}
use Rattle.saved_laws.specs.Failed.{MarksTried, FailedOf}
use Rattle.saved_laws.specs.Laws.{TriedAtEnd}
use Rattle.saved_laws.proofs.EndedLemmas.{EndedWork}
use Rattle.saved_laws.proofs.EndFinished.{ended_of, ended_barrier}
use Rattle.saved_laws.proofs.SavedWalk.{read_settles}
use Rattle.saved_laws.proofs.TriedKept.{Tried, TriedIn, Vain, marks_tried, vain_tried, all_tried, head_failed}

module _ (s : Setting) (ok : IsSensible s) (x : ℕ) where
  -- how often the moves of a run settle
  abbrev pub dues : Machine → List Event → ℕ
  dues m es = settled (map Done (run_calls s m es))

  dues_more : (m : Machine) (e : Event) (es : List Event)
      → dues m (e ∷ es) ≡ settled (map Done (due_calls s (move_of s m e))) + dues (move_of s m e).after es
  dues_more m e es = read_settles s e.reading (due_calls s (move_of s m e)) (run_calls s (move_of s m e).after es)

  -- a save with at least this number is the last one
  abbrev Ends : Machine → List Event → Type 0
  Ends m es =
      (i : ℕ) (p : Snapshot) → FailedOf s.sector (reads_of es) x → slice_get (snapshots s m es) i ≡ Some p → dues m es ≤ i
      → TriedIn s ok x p

  last_by : (m : Machine) (e : Event) (es : List Event) → Ends (move_of s m e).after es → (due : Bool) (i : ℕ) (p : Snapshot)
      → FailedOf s.sector (reads_of es) x
      → slice_get ((if due then snapshot_of (move_of s m e).after ∷ [] else []) ++ snapshots s (move_of s m e).after es) i
      ≡ Some p
      → settled (map Done (if due then save_calls s.names (text_of s.line (snapshot_of (move_of s m e).after)) else []))
      + dues (move_of s m e).after es ≤ i → TriedIn s ok x p
  last_by m e es ih false i p f at few = ih i p f at (omega (arith, few))
  last_by m e es ih true zero p f at few =
      absurd (let no : ⊥ = omega (
        arith,
        few,
        save_settled s.names (text_of s.line (snapshot_of (move_of s m e).after)),
      ) in no)
  last_by m e es ih true (suc i) p f at few =
      ih i p f at (omega (arith, few, save_settled s.names (text_of s.line (snapshot_of (move_of s m e).after))))

  pub last_tried : (m : Machine) (es : List Event) (last : Snapshot) → IsInOrder s m → IsRun s m es → Ends m es
  last_tried m [] last order run i p f at few = absurd (none-some f.read f.is)
  last_tried m (e ∷ es) last order run i p f at few =
      ⊎_elim
      (λ (v : Vain s ok x e.reading).
      one_of (TriedIn s ok x) (snapshots s m (e ∷ es)) i p
      (all_tried s ok x m e es order run (vain_tried s ok x m e es order run v)) at)
      (λ (f' : FailedOf s.sector (reads_of es) x).
      last_by m e es
      (λ j q g there less. last_tried (move_of s m e).after es last (run_steps s ok m e es order run).order
      (run_rest s m e es run) j q g there less)
      (is_due s (move_of s m e)) i p f'
      (subst (λ (l : List Snapshot). slice_get l i ≡ Some p) (due_first s m e es (is_due s (move_of s m e)) refl) at)
      (omega (arith, few, dues_more m e es)))
      (head_failed s ok x e.reading (reads_of es) f)

module _ (r : Rescue) (work : EndedWork (s r) (files_of r.did.call.told) (g r)) (found : List ℕ → Option File) (x : ℕ)
    (left : LeftBy (b r) (g r).calls (length (g r).calls) found) (f : FailedOf (s r).sector (g r).reads x) where
  abbrev m : Machine
  m = begins (s r) work.statuses work.state (g r)

  abbrev es : List Event
  es = events_in (g r)

  there : Stands (files_before (b r) (s r).names.map) (s r).end work.statuses work.state
  there =
      subst (λ (o : Option File). Stands o (s r).end work.statuses work.state)
      (mapfile_is (s r) (files_before (b r)) (on r)) work.stands

  -- the settles are the barrier's, those of due saves, and the last one's
  enough : 2 + dues (s r) (ok r) x m es ≤ settled (take (length (g r).calls) (g r).calls)
  enough =
      let moves : List Call = run_calls (s r) m es in
      let end : List Call = end_calls (s r) m es in
      omega (
        arith,
        ap settled (take-length (g r).calls),
        ap settled work.calls,
        count_both is_settle work.front (map Done (moves ++ end)),
        work.settles (on r),
        ap settled (map-append Done moves end),
        count_both is_settle (map Done moves) (map Done end),
        ap (λ (l : List Call). settled (map Done l)) (end_is (s r) m es (on r)),
        save_settled (s r).names (text_of (s r).line (last_snapshot (s r) (state_after (s r) m es))),
      )

  number_tried : (number : ℕ) (old now : Option File) (statuses : List Status) → 1 + dues (s r) (ok r) x m es ≤ number
      → IsSave old work.statuses (s r).line (saves_of (s r) work.statuses work.state (g r)) number now statuses
      → Tried statuses x
  number_tried zero old now statuses few save = absurd (let no : ⊥ = omega (arith, few) in no)
  number_tried (suc i) old now statuses few save =
      let ran : Ran (s r) work.statuses work.state (g r)
      = goes_ran (s r) (files_before (b r)) (g r) work.statuses work.state (on r) (goes r) there in
      subst (λ (l : List Status). Tried l x) (sym save.2)
      (last_tried (s r) (ok r) x m es (last_snapshot (s r) (state_after (s r) m es))
      (order_over (s r) work.statuses work.state (began_at (g r).times)) ran.run i save.0
      (subst (λ (rs : List Reading). FailedOf (s r).sector rs x) (sym ran.reads) f) save.1 (omega (arith, few)))

  pub ended_tried : MarksTried (found (s r).names.map) x
  ended_tried =
      let kept = (over r (length (g r).calls) found (omega arith) left (ended_barrier r work)).kept work.statuses work.state there in
      marks_tried (found (s r).names.map) (s r).end x kept.statuses kept.shows kept.stands
      (number_tried kept.number (files_before (b r) (s r).names.map) (found (s r).names.map) kept.statuses
      (omega (arith, kept.no_older, enough)) kept.is_save)

pub tried_at_end : TriedAtEnd
tried_at_end r reads files x seen never left f =
    let f' : FailedOf (s r).sector (g r).reads x
    = subst (λ (rs : List Reading). FailedOf r.command.options.sector rs x) (seen_alone r reads seen) f in
    ⊎_elim
    (λ (unread : (g r).reads ≡ []).
    absurd (none-some f'.read (subst (λ (rs : List Reading). slice_get rs f'.number ≡ Some f'.read) unread f'.is)))
    (λ (work : EndedWork (s r) (files_of r.did.call.told) (g r)).
    subst (λ (m : List ℕ). MarksTried (files m) x) (map_is r)
    (ended_tried r work files x (subst (λ (l : List Entry). LeftBy (b r) l (length l) files) (calls_are r) left) f'))
    (ended_of r never)
