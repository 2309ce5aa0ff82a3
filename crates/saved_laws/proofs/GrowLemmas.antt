-- Each save finishes what an earlier one did.
use Rattle.std.proofs.Common.{◌≡◌, ◌⊎◌, inl, inr, ⊎_elim, ℕ, zero, suc, ◌+◌, ◌-◌, ◌<◌, ◌≤◌, Bool, true, false, if◌then◌else◌, List, [], ◌∷◌, ◌++◌, length, take, Option, Some, refl, sym, ap, ◌∙◌, subst, arith}
use Rattle.std.specs.List.{slice_get}
use Rattle.std.proofs.Math.Seq.{take-nil}
use Rattle.std.proofs.lemmas.Bool.{cases_Bool, cases_lt}
use Rattle.std.proofs.lemmas.List.Folds.{list_any_kept}
use Rattle.block_list.specs.declared.status.Status.{Status}
use Rattle.block_list.specs.declared.status.Status.TheVariants.{Finished}
use Rattle.block_list.specs.Map.{Has}
use Rattle.mapfile_text.specs.declared.state.MapState.{MapState}
use Rattle.crash_site.specs.Files.{File}
use Rattle.crash_site.specs.Calls.{Entry, Done, Failed, draft_publish}
use Rattle.rescue_rules.specs.Setting.{Setting, IsSensible}
use Rattle.rescue_rules.specs.Machine.{Machine}
use Rattle.rescue_rules.specs.MachineLaws.{IsInOrder}
use Rattle.rescue_rules.specs.Step.{Event}
use Rattle.rescue_rules.specs.Moves.{move_of, IsRun}
use Rattle.rescue_rules.specs.Events.{began_at}
use Rattle.rescue_rules.specs.Snapshots.{Snapshot, snapshot_of, is_due, last_snapshot, snapshots}
use Rattle.rescue_rules.specs.Stops.{files_before, has_barrier, is_sync, is_settle, returned, LeftBy}
use Rattle.rescue_rules.specs.StopsBy.{is_publish, published, IsSave, saves_of}
use Rattle.rescue_rules.specs.Work.{Gain, begins, events_in}
use Rattle.rescue_rules.proofs.FinishLemmas.{run_steps}
use Rattle.rescue_rules.proofs.MoveLemmas.{run_rest}
use Rattle.rescue_rules.proofs.MoveStages.{due_first}
use Rattle.rescue_rules.proofs.PreparationLemmas.{prepares_no_finished}
use Rattle.rescue_rules.proofs.ReadyLemmas.{order_over}
use Rattle.rescue_rules.proofs.SnapshotLemmas.{one_of}
use Rattle.rescue_safety.specs.Saves.{CallsFinished}
use Rattle.rescue_safety.specs.Rescue.{Rescue}
use Rattle.saved_laws.specs.Laws.{SavesOnlyGrow}
use Rattle.rescue_rules.proofs.CutLemmas.{add}
use Rattle.rescue_safety.proofs.BegunLemmas.{count_step}
use Rattle.rescue_safety.proofs.ClaimLemmas.{Ran, goes_ran, FinishesIt, saves_still_finish, save_still}
use Rattle.rescue_safety.proofs.FinishedLemmas.{StandsAt, At, calls_finished, finished_has}
use Rattle.rescue_safety.proofs.QuietLemmas.{SavesNone, none_or_stands}
use Rattle.rescue_safety.proofs.SafeLemmas.{s, g, b, on, ok, goes, over, calls_are, map_is}
use Rattle.rescue_safety.proofs.SaveLemmas.{Made, goes_made}
use Rattle.rescue_safety.proofs.SettleLemmas.{settled, all, all_exceed}
use Rattle.rescue_safety.proofs.Texts.{cut_take}

module _ (s : Setting) (ok : IsSensible s) (x : ℕ) where
  same_shot : (p q t : Snapshot) → Some t ≡ Some p → Some t ≡ Some q → FinishesIt x p → FinishesIt x q
  same_shot p q t one two has = let same : p ≡ q = cc in subst (λ (v : Snapshot). FinishesIt x v) same has

  grows_with : (m : Machine) (e : Event) (es : List Event) (due : Bool) (i j : ℕ) (p q : Snapshot) → IsInOrder s (move_of s m e).after
      → IsRun s (move_of s m e).after es
      → ((k l : ℕ) (u v : Snapshot) → slice_get (snapshots s (move_of s m e).after es) k ≡ Some u
      → slice_get (snapshots s (move_of s m e).after es) l ≡ Some v → k ≤ l → FinishesIt x u → FinishesIt x v)
      → slice_get ((if due then snapshot_of (move_of s m e).after ∷ [] else []) ++ snapshots s (move_of s m e).after es) i ≡ Some p
      → slice_get ((if due then snapshot_of (move_of s m e).after ∷ [] else []) ++ snapshots s (move_of s m e).after es) j ≡ Some q
      → i ≤ j → FinishesIt x p → FinishesIt x q
  grows_with m e es false i j p q order run ih one two le has = ih i j p q one two le has
  grows_with m e es true zero zero p q order run ih one two le has = same_shot p q (snapshot_of (move_of s m e).after) one two has
  grows_with m e es true zero (suc j) p q order run ih one two le has =
      let n : Machine = (move_of s m e).after in
      let same : p ≡ snapshot_of n = cc in
      one_of (FinishesIt x) (snapshots s n es) j q
      (saves_still_finish s ok n es x order run (subst (λ (v : Snapshot). FinishesIt x v) same has)) two
  grows_with m e es true (suc i) zero p q order run ih one two le has = absurd (let no : ⊥ = omega (arith, le) in no)
  grows_with m e es true (suc i) (suc j) p q order run ih one two le has = ih i j p q one two (omega (arith, le)) has

  -- each save finishes what an earlier one did
  pub saves_grow : (m : Machine) (es : List Event) (i j : ℕ) (p q : Snapshot) → IsInOrder s m → IsRun s m es
      → slice_get (snapshots s m es) i ≡ Some p → slice_get (snapshots s m es) j ≡ Some q → i ≤ j
      → FinishesIt x p → FinishesIt x q
  saves_grow m [] zero zero p q order run one two le has = same_shot p q (last_snapshot s m) one two has
  saves_grow m [] (suc i) j p q order run one two le has = absurd (cc)
  saves_grow m [] zero (suc j) p q order run one two le has = absurd (cc)
  saves_grow m (e ∷ es) i j p q order run one two le has =
      let n : Machine = (move_of s m e).after in
      let later : IsRun s n es = run_rest s m e es run in
      let in_order : IsInOrder s n = (run_steps s ok m e es order run).order in
      let is = due_first s m e es (is_due s (move_of s m e)) refl in
      grows_with m e es (is_due s (move_of s m e)) i j p q in_order later
      (λ k l u v at there few fin. saves_grow n es k l u v in_order later at there few fin)
      (subst (λ (l : List Snapshot). slice_get l i ≡ Some p) is one)
      (subst (λ (l : List Snapshot). slice_get l j ≡ Some q) is two) le has

  -- and each mapfile what one of a number not greater did
  pub numbers_grow : (began : List Status) (state : Option MapState) (g : Gain) (old found later : Option File) (n k : ℕ)
      (a c : List Status) → IsRun s (begins s began state g) (events_in g)
      → IsSave old began s.line (saves_of s began state g) n found a
      → IsSave old began s.line (saves_of s began state g) k later c → n ≤ k → Has a Finished x → Has c Finished x
  numbers_grow began state g old found later zero k a c run one two le has =
      let was : Has began Finished x = subst (λ (l : List Status). Has l Finished x) one.1 has in
      save_still s old later began (saves_of s began state g) k c x two
      (saves_still_finish s ok (begins s began state g) (events_in g) x (order_over s began state (began_at g.times)) run
      (((prepares_no_finished s.domain s.try_again s.retrim began).each x).0 was))
      was
  numbers_grow began state g old found later (suc n) zero a c run one two le has =
      absurd (let no : ⊥ = omega (arith, le) in no)
  numbers_grow began state g old found later (suc n) (suc k) a c run one two le has =
      subst (λ (l : List Status). Has l Finished x) (sym two.2)
      (saves_grow (begins s began state g) (events_in g) n k one.0 two.0 (order_over s began state (began_at g.times)) run
      one.1 two.1 (omega (arith, le)) (subst (λ (l : List Status). Has l Finished x) one.2 has))

-- ---- more calls

none_taken : (P : List Entry → Type 0) (n : ℕ) → P [] → P (take n [])
none_taken P n p = subst P (sym (take-nil n)) p

-- more calls have settled as often
settled_take : (calls : List Entry) (l k : ℕ) → l ≤ k → settled (take l calls) ≤ settled (take k calls)
settled_take [] l k le =
    none_taken (λ (a : List Entry). settled a ≤ settled (take k [])) l
    (none_taken (λ (a : List Entry). settled [] ≤ settled a) k (omega arith))
settled_take (c ∷ calls) zero k le = omega (arith, (let none : settled [] ≡ 0 = refl in none))
settled_take (c ∷ calls) (suc l) zero le = absurd (let no : ⊥ = omega (arith, le) in no)
settled_take (c ∷ calls) (suc l) (suc k) le =
    omega (
      arith,
      count_step is_settle c (take l calls),
      count_step is_settle c (take k calls),
      settled_take calls l k (omega (arith, le)),
    )

barrier_more : (calls : List Entry) (k n : ℕ) → has_barrier (take k calls) ≡ true → has_barrier (take (k + n) calls) ≡ true
barrier_more calls k zero is =
    let same : k ≡ k + zero = omega arith in subst (λ (i : ℕ). has_barrier (take i calls) ≡ true) same is
barrier_more calls k (suc n) is =
    let same : k + n + 1 ≡ k + suc n = omega arith in
    subst (λ (i : ℕ). has_barrier (take i calls) ≡ true) same
    (list_any_kept is_sync calls (k + n) (barrier_more calls k n is))

-- one call more publishes none, or settles none
never_both : (e : Entry) → is_publish e ≡ true → is_settle e ≡ false
never_both (Done (draft_publish name)) is = refl
never_both (Failed (draft_publish name) steps) is = refl
never_both e is = absurd (cc)

one_more : (calls : List Entry) (k : ℕ) → (published (take (suc k) calls) ≡ published (take k calls))
    ⊎ (settled (take (suc k) calls) ≡ settled (take k calls))
one_more [] k = inl (ap published (take-nil (suc k) ∙ sym (take-nil k)))
one_more (c ∷ calls) zero =
    ⊎_elim
    (λ (is : is_publish c ≡ true).
    inr (count_step is_settle c [] ∙ ap (λ (b : Bool). add b 0 + settled []) (never_both c is)))
    (λ (off : is_publish c ≡ false). inl (count_step is_publish c [] ∙ ap (λ (b : Bool). add b 0 + published []) off))
    (cases_Bool (is_publish c))
one_more (c ∷ calls) (suc k) =
    ⊎_elim
    (λ (same : published (take (suc k) calls) ≡ published (take k calls)).
    inl (count_step is_publish c (take (suc k) calls) ∙ ap (λ (n : ℕ). add (is_publish c) 0 + n) same
    ∙ sym (count_step is_publish c (take k calls))))
    (λ (same : settled (take (suc k) calls) ≡ settled (take k calls)).
    inr (count_step is_settle c (take (suc k) calls) ∙ ap (λ (n : ℕ). add (is_settle c) 0 + n) same
    ∙ sym (count_step is_settle c (take k calls))))
    (one_more calls k)

-- ---- two stops

module _ (r : Rescue) (k l : ℕ) (files later : List ℕ → Option File) (x : ℕ)
    (le : k ≤ length (g r).calls) (left : LeftBy (b r) (g r).calls k files) (le' : l ≤ length (g r).calls)
    (left' : LeftBy (b r) (g r).calls l later) (barrier : has_barrier (take k (g r).calls) ≡ true)
    (fewer : returned (take k (g r).calls) < returned (take l (g r).calls))
    (fin : CallsFinished (files (s r).names.map) x) where
  abbrev old : Option File
  old = files_before (b r) (s r).names.map

  after : k ≤ l
  after =
      ⊎_elim
      (λ (lt : k < l). let le : k ≤ l = omega (arith, lt) in le)
      (λ (ge : l ≤ k).
      absurd (let no : ⊥ = omega (arith, settled_take (g r).calls l k ge, fewer) in no))
      (cases_lt k l)

  barrier' : has_barrier (take l (g r).calls) ≡ true
  barrier' =
      let same : k + (l - k) ≡ l = omega (arith, after) in
      subst (λ (i : ℕ). has_barrier (take i (g r).calls) ≡ true) same (barrier_more (g r).calls k (l - k) barrier)

  module _ (began : List Status) (was : Option MapState) (made : Made (s r) began was (g r)) where
    exceed : (n : ℕ) → published (take n (g r).calls) ≤ 0 + settled (take n (g r).calls)
    exceed n =
        all_exceed (s r) began was (g r) made (take n (g r).calls)
        (cut_take n (all (s r) began was (g r) made) (g r).calls made.cut)

    -- the publishes that have begun are no more than the settles that have returned, the barrier's included
    begun_settled : published (take (k + 1) (g r).calls) ≤ settled (take k (g r).calls)
    begun_settled =
        let one : k + 1 ≡ suc k = omega arith in
        let same : published (take (k + 1) (g r).calls) ≡ published (take (suc k) (g r).calls)
        = ap (λ (n : ℕ). published (take n (g r).calls)) one in
        ⊎_elim
        (λ (none : published (take (suc k) (g r).calls) ≡ published (take k (g r).calls)).
        let le : published (take (k + 1) (g r).calls) ≤ settled (take k (g r).calls) = omega (arith, same, none, exceed k) in le)
        (λ (none : settled (take (suc k) (g r).calls) ≡ settled (take k (g r).calls)).
        let le : published (take (k + 1) (g r).calls) ≤ settled (take k (g r).calls) = omega (arith, same, none, exceed (suc k)) in le)
        (one_more (g r).calls k)

  grown : StandsAt old (s r).end → CallsFinished (later (s r).names.map) x
  grown (At began was there) =
      let made : Made (s r) began was (g r) = goes_made (s r) (files_before (b r)) (g r) began was (on r) (goes r) there in
      let ran : Ran (s r) began was (g r) = goes_ran (s r) (files_before (b r)) (g r) began was (on r) (goes r) there in
      let one = (over r k files le left barrier).kept began was there in
      let two = (over r l later le' left' barrier').kept began was there in
      calls_finished (later (s r).names.map) (s r).end x two.statuses two.shows two.stands
      (numbers_grow (s r) (ok r) x began was (g r) old (files (s r).names.map) (later (s r).names.map) one.number two.number
      one.statuses two.statuses ran.run one.is_save two.is_save
      (omega (arith, one.no_newer, begun_settled began was made, two.no_older, fewer))
      (finished_has (files (s r).names.map) (s r).end x one.statuses one.shows one.stands fin))

  found_grows : CallsFinished (later (s r).names.map) x
  found_grows =
      ⊎_elim
      (λ (n : (j : ℕ) → SavesNone (g r).calls j).
      subst (λ (f : Option File). CallsFinished f x)
      ((over r k files le left barrier).mapfile (n k).published
      ∙ sym ((over r l later le' left' barrier').mapfile (n l).published))
      fin)
      grown
      (none_or_stands (s r) (files_before (b r)) (g r) (on r) (goes r))

pub saves_only_grow : SavesOnlyGrow
saves_only_grow r k l files later x le left le' left' barrier fewer fin =
    subst (λ (m : List ℕ). CallsFinished (later m) x) (map_is r)
    (found_grows r k l files later x
    (subst (λ (c : List Entry). k ≤ length c) (calls_are r) le)
    (subst (λ (c : List Entry). LeftBy (b r) c k files) (calls_are r) left)
    (subst (λ (c : List Entry). l ≤ length c) (calls_are r) le')
    (subst (λ (c : List Entry). LeftBy (b r) c l later) (calls_are r) left')
    (subst (λ (c : List Entry). has_barrier (take k c) ≡ true) (calls_are r) barrier)
    (subst (λ (c : List Entry). returned (take k c) < returned (take l c)) (calls_are r) fewer)
    (subst (λ (m : List ℕ). CallsFinished (files m) x) (sym (map_is r)) fin))
