-- What a run finishes, and what it leaves finished.
use Rattle.std.proofs.Common.{◌≡◌, ℕ, ◌-◌, true, false, if◌then◌else◌, List, [], ◌∷◌, get_or, Some, None, refl, sym, ap, ◌∙◌, arith, inl, inr, ⊎_elim}
use Rattle.std.specs.List.{slice_get}
use Rattle.std.proofs.lemmas.Bool.{false_from_ne_true}
use Rattle.std.proofs.lemmas.Option.{slice_get-get_or}
use Rattle.block_list.specs.declared.status.Status.TheVariants.{Finished}
use Rattle.block_list.specs.Map.{Has}
use Rattle.faulty_source.specs.Journal.{Reading, covers}
use Rattle.rescue_rules.specs.Setting.{Setting, IsSensible}
use Rattle.rescue_rules.specs.Machine.{Machine}
use Rattle.rescue_rules.specs.Step.{Event}
use Rattle.rescue_rules.specs.Moves.{ready, move_of, state_after, IsMove, IsRun}
use Rattle.rescue_rules.specs.Events.{reads_of}
use Rattle.rescue_rules.specs.Given.{given, last_of_both}
use Rattle.rescue_rules.specs.MachineLaws.{IsInOrder, StepsBy, RunFinishesGiven, FinishedStands}
use Rattle.rescue_rules.proofs.GivenLemmas.{given_uncovered, given_covered, Covered, covered_here}
use Rattle.rescue_rules.proofs.StepLemmas.{finished_unwanted, move_steps}
use Rattle.rescue_rules.proofs.MoveLemmas.{run_first, run_rest}
use Rattle.rescue_rules.proofs.ReadyLemmas.{order_ready, stays_ready}

-- An event of a run, with what it does to the state that it comes to.
pub run_steps : (s : Setting) (ok : IsSensible s) (m : Machine) (e : Event) (es : List Event) → IsInOrder s m
    → IsRun s m (e ∷ es) → StepsBy s (ready s m) e
run_steps s ok m e es order run =
    let v : IsMove s (move_of s m e) = run_first s m e es run in
    move_steps s (ready s m) e ok (order_ready s m order) v.request v.few

finished_ready : (s : Setting) (m : Machine) (x : ℕ) → Has m.map Finished x → Has (ready s m).map Finished x
finished_ready s m x is = ap (λ map. slice_get map x) (stays_ready s m).map ∙ is

finished_unready : (s : Setting) (m : Machine) (x : ℕ) → Has (ready s m).map Finished x → Has m.map Finished x
finished_unready s m x is = sym (ap (λ map. slice_get map x) (stays_ready s m).map) ∙ is

-- it covers no position that was finished
finished_uncovered : (s : Setting) (m : Machine) (e : Event) (x : ℕ) → StepsBy s m e → Has m.map Finished x
    → covers s.sector e.reading x ≡ false
finished_uncovered s m e x b is =
    false_from_ne_true (covers s.sector e.reading x) (λ on.
    let c : Covered s.sector e.reading x = covered_here s.sector e.reading x on in
    finished_unwanted s m x is (b.wanted x c.from (omega (arith, c.to, b.kept_asked))))

pub finished_stands : FinishedStands
finished_stands s m [] x ok order run is = (refl, is)
finished_stands s m (e ∷ es) x ok order run is =
    let n : Machine = (move_of s m e).after in
    let b : StepsBy s (ready s m) e = run_steps s ok m e es order run in
    let here : Has (ready s m).map Finished x = finished_ready s m x is in
    let later : (given s.sector (reads_of es) x ≡ None) × Has (state_after s n es).map Finished x
    = finished_stands s n es x ok b.order (run_rest s m e es run) (b.stays x here) in (
      given_uncovered s.sector e.reading (reads_of es) x (finished_uncovered s (ready s m) e x b here) ∙ later.0,
      later.1,
    )

-- A run calls a position finished only if it was, or if the source gave its byte.
covered_byte : (s : Setting) (m : Machine) (e : Event) (rs : List Reading) (x : ℕ) → StepsBy s m e
    → covers s.sector e.reading x ≡ true → given s.sector rs x ≡ None → (b : ℕ) × (given s.sector (e.reading ∷ rs) x ≡ Some b)
covered_byte s m e rs x b on none =
    let r : Reading = e.reading in
    let c : Covered s.sector r x = covered_here s.sector r x on in (
      get_or r.given (x - r.pos) 0,
      given_covered s.sector r rs x on none
          ∙ slice_get-get_or r.given (x - r.pos) 0 (omega (arith, c.from, c.to, b.kept_given)),
    )

pub run_finishes_given : RunFinishesGiven
run_finishes_given s m [] x ok order run is = inl is
run_finishes_given s m (e ∷ es) x ok order run is =
    let n : Machine = (move_of s m e).after in
    let rs : List Reading = reads_of es in
    let b : StepsBy s (ready s m) e = run_steps s ok m e es order run in
    let rest : IsRun s n es = run_rest s m e es run in
    ⊎_elim
    (λ (before : Has n.map Finished x). ⊎_elim
    (λ (was : Has (ready s m).map Finished x). inl (finished_unready s m x was))
    (λ (on : covers s.sector e.reading x ≡ true).
    inr (covered_byte s (ready s m) e rs x b on (finished_stands s n es x ok b.order rest before).0))
    (b.only x before))
    (λ (later : (byte : ℕ) × (given s.sector rs x ≡ Some byte)).
    inr (later.0, ap (λ o. last_of_both o (if covers s.sector e.reading x then slice_get e.reading.given (x - e.reading.pos) else None)) later.1))
    (run_finishes_given s n es x ok b.order rest is)
