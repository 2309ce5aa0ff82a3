-- What was read before as many saves came due as have returned is kept.
use Rattle.std.proofs.Common.{◌≡◌, ⊎_elim, ℕ, zero, suc, ◌+◌, ◌<◌, ◌≤◌, Bool, true, false, ◌&&◌, if◌then◌else◌, List, [], ◌∷◌, ◌++◌, length, take, Option, Some, None, is_none, refl, sym, ap, ◌∙◌, subst, arith}
use Rattle.std.specs.List.{slice_get}
use Rattle.std.proofs.lemmas.Bool.{cases_Bool, and_parts}
use Rattle.std.proofs.lemmas.List.{append_cancel_left}
use Rattle.std.proofs.lemmas.Option.{none-some}
use Rattle.block_list.specs.declared.status.Status.{Status}
use Rattle.block_list.specs.declared.status.Status.TheVariants.{Finished}
use Rattle.block_list.specs.Map.{Has}
use Rattle.mapfile_text.specs.declared.state.MapState.{MapState}
use Rattle.faulty_source.specs.Journal.{Reading}
use Rattle.crash_site.specs.Files.{File}
use Rattle.crash_site.specs.Calls.{Entry}
use Rattle.rescue_rules.specs.Setting.{Setting, IsSensible}
use Rattle.rescue_rules.specs.Start.{Stands}
use Rattle.rescue_rules.specs.Machine.{Machine}
use Rattle.rescue_rules.specs.MachineLaws.{IsInOrder}
use Rattle.rescue_rules.specs.Step.{Event, is_timely, limit_met}
use Rattle.rescue_rules.specs.Moves.{ready, move_of, state_after, IsRun}
use Rattle.rescue_rules.specs.Events.{began_at, events_of, reads_of}
use Rattle.rescue_rules.specs.Given.{given, last_of_both}
use Rattle.rescue_rules.specs.Snapshots.{Snapshot, snapshot_of, is_due, last_snapshot, snapshots}
use Rattle.rescue_rules.specs.Stops.{Before, files_before, has_barrier, returned, StopOf, LeftBy}
use Rattle.rescue_rules.specs.StopsBy.{IsSave, saves_of}
use Rattle.rescue_rules.specs.Work.{Gain, begins, events_in}
use Rattle.rescue_rules.proofs.FinishLemmas.{run_steps}
use Rattle.rescue_rules.proofs.MoveLemmas.{run_rest}
use Rattle.rescue_rules.proofs.MoveStages.{due_first}
use Rattle.rescue_rules.proofs.ReadyLemmas.{order_over}
use Rattle.rescue_rules.proofs.SnapshotLemmas.{one_of}
use Rattle.rescue_safety.specs.Saves.{CallsFinished}
use Rattle.rescue_safety.specs.Rescue.{Rescue}
use Rattle.rescue_safety.proofs.BegunLemmas.{own}
use Rattle.rescue_safety.proofs.ClaimLemmas.{goes_ran, FinishesIt, some_or_none, never_some}
use Rattle.rescue_safety.proofs.FinishedLemmas.{StandsAt, At, calls_finished}
use Rattle.rescue_safety.proofs.SaveLemmas.{goes_made}
use Rattle.rescue_safety.proofs.SafeLemmas.{p, s, g, b, on, ok, goes, safe, calls_are, map_is, seen_alone}
use Rattle.saved_laws.specs.Failed.{MarksTried, FailedOf}
use Rattle.saved_laws.specs.Dues.{dues_by}
use Rattle.saved_laws.specs.GoesLaws.{GoesSafely}
use Rattle.saved_laws.specs.Laws.{ReturnedSavesKeep}
use Rattle.saved_laws.proofs.BarrierFirst.{saved_past}
use Rattle.saved_laws.proofs.DuesReturned.{due_here, ready_at, no_events}
use Rattle.saved_laws.proofs.NothingLost.{all_finish, own_finishes}
use Rattle.saved_laws.proofs.SavedLemmas.{unread_or_stands}
use Rattle.saved_laws.proofs.TriedKept.{Tried, TriedIn, Vain, marks_tried, vain_tried, all_tried, head_failed}

module _ (s : Setting) (ok : IsSensible s) (x : ℕ) where
  -- a move and its save count once at most
  module _ (m : Machine) (e : Event) (old more : List Event) (Goal : Snapshot → Type 0) where
    abbrev n : Machine
    n = (move_of s m e).after

    abbrev Rest : Type 0
    Rest = (i : ℕ) (p : Snapshot) → slice_get (snapshots s (move_of s m e).after (old ++ more)) i ≡ Some p
        → dues_by (move_of s m e).after.tally.due_at old ≤ i → Goal p

    at_least : dues_by (move_of s m e).after.tally.due_at old ≤ dues_by m.tally.due_at (e ∷ old)
    at_least =
        ⊎_elim
        (λ (on : is_timely (ready s m) e ≡ true).
        let le : dues_by (move_of s m e).after.tally.due_at old ≤ dues_by m.tally.due_at (e ∷ old)
        = omega (arith, ready_at s m e old, due_here s m e old true on) in le)
        (λ (off : is_timely (ready s m) e ≡ false).
        let le : dues_by (move_of s m e).after.tally.due_at old ≤ dues_by m.tally.due_at (e ∷ old)
        = omega (arith, ready_at s m e old, due_here s m e old false off) in le)
        (cases_Bool (is_timely (ready s m) e))

    one_more : is_due s (move_of s m e) ≡ true
        → 1 + dues_by (move_of s m e).after.tally.due_at old ≤ dues_by m.tally.due_at (e ∷ old)
    one_more is =
        let both = (and_parts (s.has_mapfile && is_timely (ready s m) e) (is_none (limit_met s (move_of s m e).after)) is).0 in
        let timely : is_timely (ready s m) e ≡ true = (and_parts s.has_mapfile (is_timely (ready s m) e) both).1 in
        omega (arith, ready_at s m e old, due_here s m e old true timely)

    by_rest : Rest → (due : Bool) → is_due s (move_of s m e) ≡ due → (i : ℕ) (p : Snapshot)
        → slice_get ((if due then snapshot_of n ∷ [] else []) ++ snapshots s n (old ++ more)) i ≡ Some p
        → dues_by m.tally.due_at (e ∷ old) ≤ i → Goal p
    by_rest rest false is i p at few = rest i p at (omega (arith, few, at_least))
    by_rest rest true is zero p at few = absurd (let no : ⊥ = omega (arith, few, one_more is) in no)
    by_rest rest true is (suc i) p at few = rest i p at (omega (arith, few, one_more is))

    pub from_rest : Rest → (i : ℕ) (p : Snapshot) → slice_get (snapshots s m (e ∷ (old ++ more))) i ≡ Some p
        → dues_by m.tally.due_at (e ∷ old) ≤ i → Goal p
    from_rest rest i p at few =
        by_rest rest (is_due s (move_of s m e)) refl i p
        (subst (λ (l : List Snapshot). slice_get l i ≡ Some p)
        (due_first s m e (old ++ more) (is_due s (move_of s m e)) refl) at) few

  -- each save past those that came due by the end of the old reads finishes what these gave
  pub counted_finish : (m : Machine) (old more : List Event) (last : Snapshot) → IsInOrder s m → IsRun s m (old ++ more)
      → (byte : ℕ) → given s.sector (reads_of old) x ≡ Some byte → (i : ℕ) (p : Snapshot)
      → slice_get (snapshots s m (old ++ more)) i ≡ Some p → dues_by m.tally.due_at old ≤ i → FinishesIt x p
  counted_finish m [] more last order run byte gave i p at few = absurd (never_some byte None refl gave)
  counted_finish m (e ∷ old) more last order run byte gave i p at few =
      let es : List Event = old ++ more in
      ⊎_elim
      (λ (some : (v : ℕ) × (given s.sector (reads_of old) x ≡ Some v)).
      from_rest m e old more (FinishesIt x)
      (λ j q there less. counted_finish (move_of s m e).after old more last (run_steps s ok m e es order run).order
      (run_rest s m e es run) some.0 some.1 j q there less)
      i p at few)
      (λ (none : given s.sector (reads_of old) x ≡ None).
      one_of (FinishesIt x) (snapshots s m (e ∷ es)) i p
      (all_finish s ok x m e es order run
      (own_finishes s ok x m e es order run byte
      (sym (ap (λ (o : Option ℕ). last_of_both o (own s.sector x e.reading)) none) ∙ gave))) at)
      (some_or_none (given s.sector (reads_of old) x))

  -- and has tried what they asked for in vain
  pub counted_tried : (m : Machine) (old more : List Event) (last : Snapshot) → IsInOrder s m → IsRun s m (old ++ more)
      → FailedOf s.sector (reads_of old) x → (i : ℕ) (p : Snapshot)
      → slice_get (snapshots s m (old ++ more)) i ≡ Some p → dues_by m.tally.due_at old ≤ i → TriedIn s ok x p
  counted_tried m [] more last order run f i p at few = absurd (none-some f.read f.is)
  counted_tried m (e ∷ old) more last order run f i p at few =
      let es : List Event = old ++ more in
      ⊎_elim
      (λ (v : Vain s ok x e.reading).
      one_of (TriedIn s ok x) (snapshots s m (e ∷ es)) i p
      (all_tried s ok x m e es order run (vain_tried s ok x m e es order run v)) at)
      (λ (f' : FailedOf s.sector (reads_of old) x).
      from_rest m e old more (TriedIn s ok x)
      (λ j q there less. counted_tried (move_of s m e).after old more last (run_steps s ok m e es order run).order
      (run_rest s m e es run) f' j q there less)
      i p at few)
      (head_failed s ok x e.reading (reads_of old) f)

-- ---- a rescue

module _ (b : Before) (s : Setting) (g : Gain) (q : GoesSafely b s g) (k : ℕ) (files : List ℕ → Option File)
    (old more : List Event) (x : ℕ)
    (le : k ≤ length g.calls) (left : LeftBy b g.calls k files)
    (is : events_in g ≡ old ++ more)
    (fewer : dues_by (began_at g.times) old < returned (take k g.calls)) where
  abbrev stop : StopOf b g.calls
  stop = record { k = k; files = files; within = le; left = left }

  number_has : (began : List Status) (was : Option MapState) (Goal : List Status → Type 0)
      → ((i : ℕ) (p : Snapshot) → slice_get (snapshots s (begins s began was g) (old ++ more)) i ≡ Some p
      → dues_by (began_at g.times) old ≤ i → Goal p.map)
      → (number : ℕ) (mapfile found : Option File) (statuses : List Status) → returned (take k g.calls) ≤ number
      → IsSave mapfile began s.line (saves_of s began was g) number found statuses → Goal statuses
  number_has began was Goal each zero mapfile found statuses few save =
      absurd (let no : ⊥ = omega (arith, few, fewer) in no)
  number_has began was Goal each (suc i) mapfile found statuses few save =
      subst Goal (sym save.2)
      (each i save.0
      (subst (λ (l : List Event). slice_get (snapshots s (begins s began was g) l) i ≡ Some save.0) is save.1)
      (omega (arith, few, fewer)))

  module _ (began : List Status) (was : Option MapState)
      (there : Stands (files_before b s.names.map) s.end began was) where
    abbrev m : Machine
    m = begins s began was g

    run : IsRun s m (old ++ more)
    run =
        subst (λ (l : List Event). IsRun s m l) is
        (goes_ran s (files_before b) g began was q.named q.goes there).run

    order : IsInOrder s m
    order = order_over s began was (began_at g.times)

    barrier : has_barrier (take k g.calls) ≡ true
    barrier =
        saved_past s began was g (goes_made s (files_before b) g began was q.named q.goes there) k
        (omega (arith, fewer))

    abbrev last : Snapshot
    last = last_snapshot s (state_after s m (old ++ more))

    over_finished : (byte : ℕ) → given s.sector (reads_of old) x ≡ Some byte → CallsFinished (files s.names.map) x
    over_finished byte gave =
        let kept = (q.stops.past stop barrier).kept began was there in
        calls_finished (files s.names.map) s.end x kept.statuses kept.shows kept.stands
        (number_has began was (λ (l : List Status). Has l Finished x)
        (λ i p at few. counted_finish s q.sensible x m old more last order run byte gave i p at few)
        kept.number (files_before b s.names.map) (files s.names.map) kept.statuses kept.no_older kept.is_save)

    over_tried : FailedOf s.sector (reads_of old) x → MarksTried (files s.names.map) x
    over_tried f =
        let kept = (q.stops.past stop barrier).kept began was there in
        marks_tried (files s.names.map) s.end x kept.statuses kept.shows kept.stands
        (number_has began was (λ (l : List Status). Tried l x)
        (λ i p at few. counted_tried s q.sensible x m old more last order run f i p at few)
        kept.number (files_before b s.names.map) (files s.names.map) kept.statuses kept.no_older kept.is_save)

  found_finished : (byte : ℕ) → given s.sector (reads_of old) x ≡ Some byte
      → StandsAt (files_before b s.names.map) s.end → CallsFinished (files s.names.map) x
  found_finished byte gave (At began was there) = over_finished began was there byte gave

  found_tried : FailedOf s.sector (reads_of old) x → StandsAt (files_before b s.names.map) s.end
      → MarksTried (files s.names.map) x
  found_tried f (At began was there) = over_tried began was there f

  pub counted_keep : ((byte : ℕ) → given s.sector (reads_of old) x ≡ Some byte → CallsFinished (files s.names.map) x)
      × (FailedOf s.sector (reads_of old) x → MarksTried (files s.names.map) x)
  counted_keep =
      ⊎_elim
      (λ (unread : g.reads ≡ []).
      let empty : old ≡ [] = no_events g.reads g.times unread old more is in (
        (λ byte gave. absurd (never_some byte (given s.sector (reads_of old) x)
            (ap (λ (l : List Event). given s.sector (reads_of l) x) empty) gave)),
        (λ f. absurd (none-some f.read
            (subst (λ (l : List Event). slice_get (reads_of l) f.number ≡ Some f.read) empty f.is))),
      ))
      (λ (there : StandsAt (files_before b s.names.map) s.end). (
        (λ byte gave. found_finished byte gave there),
        (λ f. found_tried f there),
      ))
      (unread_or_stands s (files_before b) g q.named q.goes)

-- a rescue that was called for
pub went : (r : Rescue) → GoesSafely (b r) (s r) (g r)
went r = record { sensible = ok r; named = on r; goes = goes r; stops = safe r }

pub returned_saves_keep : ReturnedSavesKeep
returned_saves_keep r reads k files times old more x seen tells readings le left is fewer =
    let sector : ℕ = r.command.options.sector in
    let same : times ≡ (g r).times
    = append_cancel_left r.did.call.told.before.clock.readings times (g r).times
    (sym readings ∙ (p r).agrees.agrees.times tells) in
    let at : events_in (g r) ≡ old ++ more
    = ap (λ (rs : List Reading). events_of rs (g r).times) (sym (seen_alone r reads seen))
    ∙ ap (λ (ts : List ℕ). events_of reads ts) (sym same) ∙ is in
    let le' : k ≤ length (g r).calls = subst (λ (l : List Entry). k ≤ length l) (calls_are r) le in
    let left' : LeftBy (b r) (g r).calls k files = subst (λ (l : List Entry). LeftBy (b r) l k files) (calls_are r) left in
    let fewer' : dues_by (began_at (g r).times) old < returned (take k (g r).calls)
    = subst (λ (ts : List ℕ). dues_by (began_at ts) old < returned (take k (g r).calls)) same
    (subst (λ (l : List Entry). dues_by (began_at times) old < returned (take k l)) (calls_are r) fewer) in
    subst (λ (m : List ℕ). ((byte : ℕ) → given sector (reads_of old) x ≡ Some byte → CallsFinished (files m) x)
    × (FailedOf sector (reads_of old) x → MarksTried (files m) x)) (map_is r)
    (counted_keep (b r) (s r) (g r) (went r) k files old more x le' left' at fewer')
