-- How often a run asks for a position.
use Rattle.std.proofs.Common.{◌≡◌, ◌⊎◌, ℕ, zero, suc, ◌+◌, true, false, List, [], ◌∷◌, Some, refl, sym, ap, subst, ◌∙◌, inl, inr, ⊎_elim}
use Rattle.std.proofs.lemmas.List.Elements.{All-get_or}
use Rattle.std.proofs.lemmas.Option.{get_or_from_slice_get, same_Some, slice_get_within}
use Rattle.block_list.specs.declared.status.Status.{Status}
use Rattle.block_list.specs.declared.status.Status.TheVariants.{NonTried, NonTrimmed, NonScraped, BadSector, Finished}
use Rattle.block_list.specs.Map.{Has}
use Rattle.faulty_source.specs.Ends.{is_before}
use Rattle.rescue_rules.specs.declared.tally.Tally.{Tally}
use Rattle.rescue_rules.specs.declared.phase.Phase.{Phase}
use Rattle.rescue_rules.specs.declared.phase.Phase.TheVariants.{Copying, Trimming, Scraping, Retrying}
use Rattle.rescue_rules.specs.Setting.{Setting, IsSensible}
use Rattle.rescue_rules.specs.Passes.{Pass, taken, numbered, passes_from}
use Rattle.rescue_rules.specs.Machine.{Machine, pass_of, is_wanted}
use Rattle.rescue_rules.specs.Step.{Event, copies, trims, is_copying, is_trimming, rest_status, step}
use Rattle.rescue_rules.specs.Moves.{Move, move_of, moves, ready, IsMove, IsRun}
use Rattle.rescue_rules.specs.MachineLaws.{IsInOrder, AsksFor}
use Rattle.rescue_rules.proofs.MoveLemmas.{run_first, run_rest}
use Rattle.rescue_rules.proofs.OverLemmas.{before_was, wanted_before}
use Rattle.rescue_rules.proofs.ReadyLemmas.{stays_ready}
use Rattle.rescue_rules.proofs.StepLemmas.{finished_unwanted, request_asks}
use Rattle.rescue_rules.proofs.StatusLemmas.{rest_is}
use Rattle.run_laws.proofs.OnceLemmas.{copying_asks_once}
use Rattle.run_laws.specs.Bounds.{MoveAsks, narrows, is_narrowing, AskFew}
use Rattle.rescue_core.proofs.ChangeLemmas.{Kept, Missed, CutOff, Between, Stands}
use Rattle.run_laws.proofs.OrderLemmas.{AreOrdered, ordered_from}
use Rattle.run_laws.proofs.OwedLemmas.{Owes, owed_before, asked_owed, asked_paid, owed_step}
use Rattle.run_laws.proofs.RunLemmas.{MayRun, Moves, moves_by, has_ready, asked_taken}

-- Why states of a kind ask for a position once: a read that asks for it there makes something so, which stays so and
-- bars another such read.
record IsOnce (s : Setting) (x : ℕ) (Fits Done : Machine → Type 0) : Type 0 where
  makes : (m : Machine) (e : Event) → Moves s m e → Fits (ready s m) → AsksFor e.reading x → Done (move_of s m e).after
  keeps : (m : Machine) (e : Event) → Moves s m e → Done m → Done (move_of s m e).after
  bars : (m : Machine) (e : Event) → Moves s m e → Done m → Fits (ready s m) → AsksFor e.reading x → ⊥

-- the first move of a run fits, and asks for a position
record IsFirstMove (s : Setting) (m : Machine) (e : Event) (x : ℕ) (Fits : Machine → Type 0) : Type 0 where
  fits : Fits (ready s m)
  asks : AsksFor e.reading x

first_is : (s : Setting) (m : Machine) (e : Event) (es : List Event) (x : ℕ) (v : Move) (Fits : Machine → Type 0)
    → MoveAsks (moves s m (e ∷ es)) 0 x v → Fits v.before → IsFirstMove s m e x Fits
first_is s m e es x v Fits a fits =
    let same : move_of s m e ≡ v = same_Some (move_of s m e) v a.is in
    record {
      fits = subst (λ (u : Move). Fits u.before) (sym same) fits;
      asks = subst (λ (u : Move). AsksFor u.event.reading x) (sym same) a.asks;
    }

never_again : (s : Setting) (m : Machine) (es : List Event) (j x : ℕ) (w : Move) (Fits Done : Machine → Type 0)
    → IsOnce s x Fits Done → IsSensible s → MayRun s m → IsRun s m es → Done m → MoveAsks (moves s m es) j x w
    → Fits w.before → ⊥
never_again s m [] j x w Fits Done once ok may run done a fits = let none : _ = a.is in absurd (cc)
never_again s m (e ∷ es) zero x w Fits Done once ok may run done a fits =
    let first : IsFirstMove s m e x Fits = first_is s m e es x w Fits a fits in
    once.bars m e (moves_by s m e ok may (run_first s m e es run)) done first.fits first.asks
never_again s m (e ∷ es) (suc j) x w Fits Done once ok may run done a fits =
    let by : Moves s m e = moves_by s m e ok may (run_first s m e es run) in
    never_again s (move_of s m e).after es j x w Fits Done once ok by.after (run_rest s m e es run)
    (once.keeps m e by done)
    (record { is = a.is; asks = a.asks }) fits

once_first : (s : Setting) (m : Machine) (e : Event) (es : List Event) (j x : ℕ) (v w : Move)
    (Fits Done : Machine → Type 0)
    → IsOnce s x Fits Done → IsSensible s → MayRun s m → IsRun s m (e ∷ es) → MoveAsks (moves s m (e ∷ es)) 0 x v
    → Fits v.before → MoveAsks (moves s m (e ∷ es)) (suc j) x w → Fits w.before → ⊥
once_first s m e es j x v w Fits Done once ok may run a fits b fits' =
    let by : Moves s m e = moves_by s m e ok may (run_first s m e es run) in
    let first : IsFirstMove s m e x Fits = first_is s m e es x v Fits a fits in
    never_again s (move_of s m e).after es j x w Fits Done once ok by.after (run_rest s m e es run)
    (once.makes m e by first.fits first.asks) (record { is = b.is; asks = b.asks }) fits'

asks_once : (s : Setting) (m : Machine) (es : List Event) (i j x : ℕ) (v w : Move) (Fits Done : Machine → Type 0)
    → IsOnce s x Fits Done → IsSensible s → MayRun s m → IsRun s m es → MoveAsks (moves s m es) i x v
    → MoveAsks (moves s m es) j x w → Fits v.before → Fits w.before → i ≡ j
asks_once s m [] i j x v w Fits Done once ok may run a b fits fits' = let none : _ = a.is in absurd (cc)
asks_once s m (e ∷ es) zero zero x v w Fits Done once ok may run a b fits fits' = refl
asks_once s m (e ∷ es) zero (suc j) x v w Fits Done once ok may run a b fits fits' =
    absurd (once_first s m e es j x v w Fits Done once ok may run a fits b fits')
asks_once s m (e ∷ es) (suc i) zero x v w Fits Done once ok may run a b fits fits' =
    absurd (once_first s m e es i x w v Fits Done once ok may run b fits' a fits)
asks_once s m (e ∷ es) (suc i) (suc j) x v w Fits Done once ok may run a b fits fits' =
    let by : Moves s m e = moves_by s m e ok may (run_first s m e es run) in
    ap suc (asks_once s (move_of s m e).after es i j x v w Fits Done once ok by.after (run_rest s m e es run)
    (record { is = a.is; asks = a.asks }) (record { is = b.is; asks = b.asks }) fits fits')

-- what trimming and scraping make of a position that they ask for: it is bad or finished, and stays so
abbrev IsNarrowed : Machine → ℕ → Type 0
IsNarrowed m x = Has m.map BadSector x ⊎ Has m.map Finished x

-- or it isn't left of the domain any more
abbrev IsSettled : Machine → ℕ → Type 0
IsSettled m x = is_before m.tally.over x ≡ true → IsNarrowed m x

narrowed_has : (m : Machine) (t : Status) (x : ℕ) → IsNarrowed m x → Has m.map t x → (t ≡ BadSector) ⊎ (t ≡ Finished)
narrowed_has m t x narrowed has =
    ⊎_elim (λ (bad : Has m.map BadSector x). inl (same_Some t BadSector (sym has ∙ bad)))
    (λ (done : Has m.map Finished x). inr (same_Some t Finished (sym has ∙ done))) narrowed

narrows_not : (phase : Phase) → narrows phase ≡ true → (taken phase ≡ BadSector) ⊎ (taken phase ≡ Finished) → ⊥
narrows_not Copying on is = absurd (cc)
narrows_not Trimming on is =
    ⊎_elim (λ (e : NonTrimmed ≡ BadSector). absurd (cc)) (λ (e : NonTrimmed ≡ Finished). absurd (cc)) is
narrows_not Scraping on is =
    ⊎_elim (λ (e : NonScraped ≡ BadSector). absurd (cc)) (λ (e : NonScraped ≡ Finished). absurd (cc)) is
narrows_not Retrying on is = absurd (cc)

copies_not : (phase : Phase) → copies phase ≡ true → (taken phase ≡ BadSector) ⊎ (taken phase ≡ Finished) → ⊥
copies_not Copying on is =
    ⊎_elim (λ (e : NonTried ≡ BadSector). absurd (cc)) (λ (e : NonTried ≡ Finished). absurd (cc)) is
copies_not _ on is = absurd (cc)

narrows_apart : (phase : Phase) → narrows phase ≡ true → copies phase ≡ true → ⊥
narrows_apart Copying on is = absurd (cc)
narrows_apart _ on is = absurd (cc)

narrowed_ready : (s : Setting) (m : Machine) (x : ℕ) → IsNarrowed m x → IsNarrowed (ready s m) x
narrowed_ready s m x narrowed =
    ⊎_elim (λ (bad : Has m.map BadSector x). inl (has_ready s m BadSector x bad))
    (λ (done : Has m.map Finished x). inr (has_ready s m Finished x done)) narrowed

narrowing_makes : (s : Setting) (m : Machine) (e : Event) (x : ℕ) → Moves s m e → is_narrowing (ready s m) ≡ true
    → AsksFor e.reading x → IsSettled (move_of s m e).after x
narrowing_makes s m e x by on asks before =
    elim (by.changes x) [
      | Kept asks' done ↦ inr done
      | Missed asks' part size rest ↦ ⊎_elim
          (λ (is : (rest_status s (ready s m) size ≡ NonTrimmed) × (is_copying (ready s m) ≡ true)).
          absurd (narrows_apart (pass_of (ready s m)).phase on is.1))
          (λ (bad : rest_status s (ready s m) size ≡ BadSector). inl (rest ∙ ap (λ (t : Status). Some t) bad))
          (rest_is s (ready s m) size)
      | CutOff asks' gone same ↦ absurd (gone before)
      | Between apart trims was now ↦ absurd (apart asks)
      | Stands apart same ↦ absurd (apart asks)
    ]

settled_ready : (s : Setting) (m : Machine) (x : ℕ) → IsSettled m x → IsSettled (ready s m) x
settled_ready s m x settled before =
    narrowed_ready s m x
    (settled (subst (λ (t : Tally). is_before t.over x ≡ true) (stays_ready s m).tally before))

narrowing_keeps : (s : Setting) (m : Machine) (e : Event) (x : ℕ) → Moves s m e → IsSettled m x
    → IsSettled (move_of s m e).after x
narrowing_keeps s m e x by settled before =
    let k : Machine = ready s m in
    let at : Phase = (pass_of k).phase in
    let here : IsNarrowed k x = settled_ready s m x settled (before_was k e.reading x before) in
    elim (by.changes x) [
      | Kept asks done ↦ inr done
      | Missed asks part size rest ↦ ⊎_elim
          (λ (is : (rest_status s k size ≡ NonTrimmed) × (is_copying k ≡ true)).
          absurd (copies_not at is.1 (narrowed_has k (taken at) x here (asked_taken s m e x by asks))))
          (λ (bad : rest_status s k size ≡ BadSector). inl (rest ∙ ap (λ (t : Status). Some t) bad))
          (rest_is s k size)
      | CutOff asks gone same ↦ absurd (gone before)
      | Between apart trims was now ↦ absurd (narrows_not Trimming refl (narrowed_has k NonTrimmed x here was))
      | Stands apart same ↦ ⊎_elim (λ (bad : Has k.map BadSector x). inl (same ∙ bad))
          (λ (done : Has k.map Finished x). inr (same ∙ done)) here
    ]

narrowing_once : (s : Setting) (x : ℕ) → IsOnce s x (λ k. is_narrowing k ≡ true) (λ k. IsSettled k x)
narrowing_once s x = record {
  makes = λ m e by on asks. narrowing_makes s m e x by on asks;
  keeps = λ m e by settled. narrowing_keeps s m e x by settled;
  bars = λ m e by settled on asks.
      let k : Machine = ready s m in
      let wanted : is_wanted s k x ≡ true = by.steps.wanted x asks.from asks.to in
      narrows_not (pass_of k).phase on
      (narrowed_has k (taken (pass_of k).phase) x (settled_ready s m x settled (wanted_before s k x wanted))
      (asked_taken s m e x by asks));
}

-- a pass of retrying owes a position nothing that it asked for
retrying_once : (s : Setting) (x n : ℕ)
    → IsOnce s x (λ k. pass_of k ≡ numbered Retrying n) (λ k. Owes s k (numbered Retrying n) x → ⊥)
retrying_once s x n =
    let p : Pass = numbered Retrying n in
    record {
      makes = λ m e by is asks owes.
          let k : Machine = ready s m in
          let off : is_trimming k ≡ false = ap (λ (q : Pass). trims q.phase) is in
          asked_paid s k e x off by.before.passes by.request by.steps asks
          (subst (λ (q : Pass). Owes s (step s k e) q x) (sym is) owes);
      keeps = λ m e by paid owes. paid (owed_before s m p x (owed_step s (ready s m) e p x by.request by.steps owes));
      bars = λ m e by paid is asks.
          let k : Machine = ready s m in
          paid (owed_before s m p x (subst (λ (q : Pass). Owes s k q x) is (asked_owed s k e x by.request by.steps asks)));
    }

-- a move of a run asks for nothing that is finished
unfinished : (s : Setting) (m : Machine) (es : List Event) (i x : ℕ) (v : Move) → IsSensible s → IsRun s m es
    → MoveAsks (moves s m es) i x v → Has v.before.map Finished x → ⊥
unfinished s m es i x v ok run a has =
    let p : ℕ = v.event.reading.pos in
    let q : ℕ = v.event.reading.pos + v.event.reading.asked in
    let is : IsMove s v =
    subst (IsMove s) (get_or_from_slice_get (moves s m es) i v v a.is)
    (All-get_or (IsMove s) (moves s m es) i v (slice_get_within (moves s m es) i v a.is) run.each) in
    finished_unwanted s v.before x has ((request_asks s ok v.before p q is.request).wanted x a.asks.from a.asks.to)

-- A run whose passes follow one another asks for a position as few times as that,
asks_few : (s : Setting) (m : Machine) (es : List Event) → IsSensible s → MayRun s m → IsRun s m es → AskFew s m es
asks_few s m es ok may run =
    let narrows : Machine → Type 0 = λ k. is_narrowing k ≡ true in
    let settled : ℕ → Machine → Type 0 = λ x k. IsSettled k x in
    let retries : ℕ → Machine → Type 0 = λ n k. pass_of k ≡ numbered Retrying n in
    let paid : ℕ → ℕ → Machine → Type 0 = λ n x k. Owes s k (numbered Retrying n) x → ⊥ in
    record {
      copying = λ i j x v w a b on on'.
          copying_asks_once s m es i j x v w ok may.order run a.is b.is on on' a.asks b.asks;
      narrowing = λ i j x v w a b on on'.
          asks_once s m es i j x v w narrows (settled x) (narrowing_once s x) ok may run a b on on';
      retrying = λ i j x n v w a b is is'.
          asks_once s m es i j x v w (retries n) (paid n x) (retrying_once s x n) ok may run a b is is';
      unfinished = λ i x v a has. unfinished s m es i x v ok run a has;
    }

-- and so does one whose passes are all those from one of them on.
pub run_asks_few : (s : Setting) (m : Machine) (phase : Phase) (number : ℕ) (es : List Event) → IsSensible s
    → IsInOrder s m → m.passes ≡ passes_from s phase number → IsRun s m es → AskFew s m es
run_asks_few s m phase number es ok order are run =
    asks_few s m es ok (record { order = order; passes = subst AreOrdered (sym are) (ordered_from s phase number) }) run
