-- What was written before a save that returned is finished in each map that may be found from then on.
use Rattle.std.proofs.Common.{◌≡◌, ◌⊎◌, inl, inr, ⊎_elim, ℕ, ◌+◌, ◌≤◌, true, false, if◌then◌else◌, List, [], ◌∷◌, ◌++◌, take, All, Option, Some, None, refl, sym, ap, ◌∙◌, subst}
use Rattle.std.proofs.lemmas.Bool.{cases_Bool, cond-false}
use Rattle.std.proofs.lemmas.List.Elements.{All-append}
use Rattle.block_list.specs.declared.status.Status.{Status}
use Rattle.block_list.specs.declared.status.Status.TheVariants.{Finished}
use Rattle.block_list.specs.Map.{Has}
use Rattle.mapfile_text.specs.declared.state.MapState.{MapState}
use Rattle.faulty_source.specs.Journal.{Reading, covers}
use Rattle.crash_site.specs.Files.{File}
use Rattle.crash_site.specs.Calls.{image_sync, map_settle, Entry, Done}
use Rattle.rescue_rules.specs.Setting.{Setting, IsSensible}
use Rattle.rescue_rules.specs.Machine.{Machine}
use Rattle.rescue_rules.specs.MachineLaws.{IsInOrder, StepsBy}
use Rattle.rescue_rules.specs.Step.{Event}
use Rattle.rescue_rules.specs.Moves.{ready, move_of, IsRun}
use Rattle.rescue_rules.specs.Events.{reads_of}
use Rattle.rescue_rules.specs.Given.{last_of_both}
use Rattle.rescue_rules.specs.Snapshots.{Snapshot, snapshot_of, is_due, snapshots}
use Rattle.rescue_rules.specs.StopsBy.{IsSave, saves_of}
use Rattle.rescue_rules.specs.Work.{Gain, begins, events_in}
use Rattle.rescue_rules.proofs.CutLemmas.{add}
use Rattle.rescue_rules.proofs.FinishLemmas.{run_steps}
use Rattle.rescue_rules.proofs.MoveLemmas.{run_rest}
use Rattle.rescue_rules.proofs.MoveStages.{due_first}
use Rattle.rescue_safety.proofs.BegunLemmas.{writes_in, begun, begun_step, begun_zero, own, is_kept}
use Rattle.rescue_safety.proofs.ClaimLemmas.{FinishesIt, if_finishes, saves_still_finish, some_or_none, never_some}
use Rattle.rescue_safety.proofs.SaveLemmas.{Made}
use Rattle.rescue_safety.proofs.SettleLemmas.{settled}
use Rattle.saved_laws.proofs.SavedWalk.{number_told}

module _ (s : Setting) (ok : IsSensible s) (x : ℕ) where
  -- the reads that had begun to be written gave the position
  abbrev Given : ℕ → List Reading → Type 0
  Given n rs = (byte : ℕ) × (begun s.sector x n rs ≡ Some byte)

  none_given : (rs : List Reading) → Given 0 rs → ⊥
  none_given rs (byte, is) = never_some byte (begun s.sector x 0 rs) (begun_zero s.sector x rs) is

  unread : (n : ℕ) → Given n [] → ⊥
  unread n (byte, is) = never_some byte None refl is

  module _ (m : Machine) (e : Event) (es : List Event) (order : IsInOrder s m) (run : IsRun s m (e ∷ es)) where
    abbrev n : Machine
    n = (move_of s m e).after

    abbrev r : Reading
    r = e.reading

    abbrev rs : List Reading
    rs = reads_of es

    steps : StepsBy s (ready s m) e
    steps = run_steps s ok m e es order run

    -- a position that this read gave is finished in each save
    pub all_finish : Has n.map Finished x → All (FinishesIt x) (snapshots s m (e ∷ es))
    all_finish has =
        subst (λ (l : List Snapshot). All (FinishesIt x) l) (sym (due_first s m e es (is_due s (move_of s m e)) refl))
        (All-append (FinishesIt x) (if is_due s (move_of s m e) then snapshot_of n ∷ [] else []) (snapshots s n es)
        (if_finishes x (is_due s (move_of s m e)) (snapshot_of n) has)
        (saves_still_finish s ok n es x steps.order (run_rest s m e es run) has))

    pub own_finishes : (byte : ℕ) → own s.sector x r ≡ Some byte → Has n.map Finished x
    own_finishes byte is =
        ⊎_elim (λ (on : covers s.sector r x ≡ true). steps.finishes x on)
        (λ (off : covers s.sector r x ≡ false).
        absurd (never_some byte (own s.sector x r) (cond-false (covers s.sector r x) _ None off) is))
        (cases_Bool (covers s.sector r x))

    given_by : (w : ℕ) → Given (add (is_kept s.sector x r) w) (r ∷ rs)
        → All (FinishesIt x) (snapshots s m (e ∷ es)) ⊎ Given w rs
    given_by w (byte, gave) =
        let gave' : last_of_both (begun s.sector x w rs) (own s.sector x r) ≡ Some byte
        = sym (begun_step s.sector x w r rs) ∙ gave in
        ⊎_elim (λ (some : (v : ℕ) × (begun s.sector x w rs ≡ Some v)). inr some)
        (λ (no : begun s.sector x w rs ≡ None).
        inl (all_finish (own_finishes byte (sym (ap (λ (o : Option ℕ). last_of_both o (own s.sector x r)) no) ∙ gave'))))
        (some_or_none (begun s.sector x w rs))

module _ (s : Setting) (began : List Status) (state : Option MapState) (g : Gain) (made : Made s began state g)
    (ok : IsSensible s) (order : IsInOrder s (begins s began state g)) (run : IsRun s (begins s began state g) (events_in g))
    (x : ℕ) where
  -- what was written before a sync that a settle follows is finished by each save whose number is as great as the
  -- number of those that have returned
  pub number_finishes : (k number : ℕ) (old found : Option File) (statuses : List Status)
      (before saving after : List Entry) (name : List ℕ) (byte : ℕ)
      → take k g.calls ≡ before ++ Done image_sync ∷ (saving ++ Done (map_settle name) ∷ after)
      → settled (take k g.calls) ≤ 1 + number
      → IsSave old began s.line (saves_of s began state g) number found statuses
      → begun s.sector x (writes_in before) (reads_of (events_in g)) ≡ Some byte → Has statuses Finished x
  number_finishes k number old found statuses before saving after name byte is few save gave =
      number_told s ok (Given s ok x) (λ map. Has map Finished x) (none_given s ok x) (unread s ok x) (given_by s ok x)
      began state g made order run k number old found statuses before saving after name is few save (byte, gave)
