-- Maps by position, and combined maps.
use Rattle.std.proofs.Common.{◌≡◌, ℕ, zero, suc, ◌+◌, ◌-◌, ◌<◌, ◌≤◌, max, Bool, true, ◌&&◌, ◌||◌, List, [], ◌∷◌, ◌++◌, replicate, append_assoc, append-nil, Some, length, map, ap, sym, ◌∙◌, refl, arith, ⊎_elim}
use Rattle.std.specs.List.{slice_get, range_with_len}
use Rattle.std.proofs.lemmas.Bool.{cases_lt, cond-true, cond-false}
use Rattle.std.proofs.lemmas.List.{get_or_past}
use Rattle.std.proofs.lemmas.List.FromFn.{get_or-map-range_with_len, length-map-range_with_len, map-range_with_len_more}
use Rattle.block_list.specs.declared.status.Status.{Status}
use Rattle.block_list.specs.declared.status.Status.TheVariants.{NonTried, NonTrimmed, NonScraped, BadSector, Finished}
use Rattle.block_list.specs.Status.{same}
use Rattle.rescue_domain.specs.Finished.{is_finished_at}
use Rattle.map_algebra.specs.declared.combine.Op.{Op}
use Rattle.map_algebra.specs.declared.combine.Op.TheVariants.{And, Or, Xor}
use Rattle.map_counts.specs.At.{status_at, map_by}
use Rattle.map_algebra.specs.Combine.{combined, combined_map}
use Rattle.map_algebra.specs.Laws.{MapHasEach, AndFinishesBoth, OrFinishesEither, OtherPositionsStand, XorUndoesItself}

slice_get-map_range : {X : Type 0} (f : ℕ → X) (a n i : ℕ) → i < n → slice_get (map f (range_with_len a n)) i ≡ Some (f (a + i))
slice_get-map_range f a zero i h = absurd (omega (arith, h))
slice_get-map_range f a (suc n) zero h = let e : a ≡ a + 0 = omega arith in ap (λ k. Some (f k)) e
slice_get-map_range f a (suc n) (suc i) h =
    let e : a + 1 + i ≡ a + suc i = omega arith in
    slice_get-map_range f (a + 1) n i (omega (arith, h)) ∙ ap (λ k. Some (f k)) e

pub map_has_each : MapHasEach
map_has_each status end x h =
    let e : 0 + x ≡ x = omega arith in slice_get-map_range status 0 end x h ∙ ap (λ k. Some (status k)) e

pub status_below : (f : ℕ → Status) (end x : ℕ) → x < end → status_at (map_by f end) x ≡ f x
status_below f end x h = get_or-map-range_with_len f 0 end x x NonTried h (omega arith)

pub status_past : (f : ℕ → Status) (end x : ℕ) → end ≤ x → status_at (map_by f end) x ≡ NonTried
status_past f end x h =
    get_or_past (map_by f end) x NonTried (omega (arith, h, length-map-range_with_len f 0 end))

pub length_map_by : (f : ℕ → Status) (end : ℕ) → length (map_by f end) ≡ end
length_map_by f end = length-map-range_with_len f 0 end

-- whether a position is finished, by its status
pub finished_at : (statuses : List Status) (x : ℕ) → is_finished_at statuses x ≡ same (status_at statuses x) Finished
finished_at [] x = refl
finished_at (s ∷ ss) zero = refl
finished_at (s ∷ ss) (suc x) = finished_at ss x

-- the same where its status is known
pub finished_by : (statuses : List Status) (x : ℕ) (s : Status) → status_at statuses x ≡ s
    → is_finished_at statuses x ≡ same s Finished
finished_by statuses x s e = finished_at statuses x ∙ ap (λ u. same u Finished) e

nothing_at : (op : Op) → NonTried ≡ combined op NonTried NonTried
nothing_at And = refl
nothing_at Or = refl
nothing_at Xor = refl

-- what stands at a position of the domain in a combined map
pub combined_at : (op : Op) (domain : ℕ → Bool) (first second : List Status) (x : ℕ) → domain x ≡ true
    → status_at (combined_map op domain first second) x ≡ combined op (status_at first x) (status_at second x)
combined_at op domain first second x d =
    let end = max (length first) (length second) in
    let both : Status = combined op (status_at first x) (status_at second x) in
    ⊎_elim
    (λ l. status_below _ end x l ∙ cond-true (domain x) both (status_at first x) d)
    (λ l. status_past _ end x l ∙ nothing_at op
    ∙ sym (ap (λ s. combined op s (status_at second x)) (get_or_past first x NonTried (omega (arith, l)))
    ∙ ap (combined op NonTried) (get_or_past second x NonTried (omega (arith, l)))))
    (cases_lt x end)

abbrev is_done : Status → Bool
is_done s = same s Finished

and_both : (a b : Status) → is_done (combined And a b) ≡ (is_done a && is_done b)
and_both NonTried NonTried = refl
and_both NonTrimmed NonTried = refl
and_both NonScraped NonTried = refl
and_both BadSector NonTried = refl
and_both Finished NonTried = refl
and_both _ _ = refl

or_either : (a b : Status) → is_done (combined Or a b) ≡ (is_done a || is_done b)
or_either NonTried NonTried = refl
or_either NonTrimmed NonTried = refl
or_either NonScraped NonTried = refl
or_either BadSector NonTried = refl
or_either Finished NonTried = refl
or_either _ _ = refl

xor_back : (a b : Status) → is_done (combined Xor (combined Xor a b) b) ≡ is_done a
xor_back NonTried NonTried = refl
xor_back NonTrimmed NonTried = refl
xor_back NonScraped NonTried = refl
xor_back BadSector NonTried = refl
xor_back Finished NonTried = refl
xor_back _ _ = refl

pub and_finishes_both : AndFinishesBoth
and_finishes_both domain first second x d =
    finished_at (combined_map And domain first second) x
    ∙ ap is_done (combined_at And domain first second x d)
    ∙ and_both (status_at first x) (status_at second x)
    ∙ sym (ap (λ b. b && is_finished_at second x) (finished_at first x)
    ∙ ap (λ b. is_done (status_at first x) && b) (finished_at second x))

pub or_finishes_either : OrFinishesEither
or_finishes_either domain first second x d =
    finished_at (combined_map Or domain first second) x
    ∙ ap is_done (combined_at Or domain first second x d)
    ∙ or_either (status_at first x) (status_at second x)
    ∙ sym (ap (λ b. b || is_finished_at second x) (finished_at first x)
    ∙ ap (λ b. is_done (status_at first x) || b) (finished_at second x))

pub others_stand : OtherPositionsStand
others_stand op domain first second x d =
    let end = max (length first) (length second) in
    let both : Status = combined op (status_at first x) (status_at second x) in
    ⊎_elim
    (λ l. status_below _ end x l ∙ cond-false (domain x) both (status_at first x) d)
    (λ l. status_past _ end x l ∙ sym (get_or_past first x NonTried (omega (arith, l))))
    (cases_lt x end)

pub xor_undoes_itself : XorUndoesItself
xor_undoes_itself domain first second =
    let once = combined_map Xor domain first second in record {
      each = λ x d. finished_at (combined_map Xor domain once second) x
          ∙ ap is_done (combined_at Xor domain once second x d
          ∙ ap (λ s. combined Xor s (status_at second x)) (combined_at Xor domain first second x d))
          ∙ xor_back (status_at first x) (status_at second x)
          ∙ sym (finished_at first x);
    }

-- a map goes on with one status where the statuses are the same
replicate_more : (n : ℕ) (s : Status) → replicate n s ++ s ∷ [] ≡ replicate (suc n) s
replicate_more zero s = refl
replicate_more (suc n) s = ap (λ r. s ∷ r) (replicate_more n s)

more_by : (f : ℕ → Status) (at n : ℕ) (s : Status) → ((x : ℕ) → at ≤ x → x < at + n → f x ≡ s)
    → map_by f (at + n) ≡ map_by f at ++ replicate n s
more_by f at zero s h =
    let e : at + 0 ≡ at = omega arith in ap (map_by f) e ∙ sym (append-nil (map_by f at))
more_by f at (suc n) s h =
    let e : at + suc n ≡ at + n + 1 = omega arith in
    ap (map_by f) e ∙ map-range_with_len_more f 0 (at + n) (at + n) (omega arith)
    ∙ ap (λ r. r ++ f (at + n) ∷ []) (more_by f at n s (λ x l u. h x l (omega (arith, u))))
    ∙ ap (λ v. (map_by f at ++ replicate n s) ++ v ∷ []) (h (at + n) (omega arith) (omega arith))
    ∙ append_assoc (map_by f at) (replicate n s) (s ∷ [])
    ∙ ap (λ r. map_by f at ++ r) (replicate_more n s)

pub map_by_more : (f : ℕ → Status) (at to : ℕ) (s : Status) → at ≤ to
    → ((x : ℕ) → at ≤ x → x < to → f x ≡ s) → map_by f to ≡ map_by f at ++ replicate (to - at) s
map_by_more f at to s l h =
    let e : at + (to - at) ≡ to = omega (arith, l) in
    ap (map_by f) (sym e) ∙ more_by f at (to - at) s (λ x a b. h x a (omega (arith, b, e)))

-- a map by positions that a walk made up to here, with a piece put after it
pub grown : (f : ℕ → Status) (at to : ℕ) (s : Status) (out next : List Status) → out ≡ map_by f at → at ≤ to
    → next ≡ out ++ replicate (to - length out) s → ((x : ℕ) → at ≤ x → x < to → f x ≡ s) → next ≡ map_by f to
grown f at to s out next made l put h =
    let len : length out ≡ at = ap length made ∙ length_map_by f at in
    put ∙ ap (λ k. out ++ replicate (to - k) s) len ∙ ap (λ r. r ++ replicate (to - at) s) made
    ∙ sym (map_by_more f at to s l h)
