-- What reads gave a position is what the last of their pairs gives it.
use Rattle.std.proofs.Common.{◌≡◌, ℕ, suc, ◌+◌, ◌-◌, ◌<◌, ◌≤◌, nat_eq, nat_le, nat_lt, if◌then◌else◌, List, [], ◌∷◌, ◌++◌, take, refl, sym, ap, ◌∙◌, arith, ⊎_elim}
use Rattle.std.specs.Prelude.{slice_get, Option, Some, None}
use Rattle.std.specs.List.{enumerate_from}
use Rattle.std.proofs.lemmas.List.{length-take}
use Rattle.std.proofs.lemmas.Bool.{cases_lt, eq-eqb, ne_eqb, le-leb, lt-leb, lt-ltb, le-ltb, and_from, and_left, and_right, cond-true, cond-false}
use Rattle.std.proofs.lemmas.Option.{slice_get_past}
use Rattle.faulty_source.specs.Journal.{Reading, kept, covers}
use Rattle.rescue_rules.specs.Given.{given, last_of_both}
use Rattle.rescue_rules.proofs.MarkLemmas.{slice_get-take}
use Rattle.rescue_safety.specs.Owed.{last_given, pairs_of}

last_joins : (a b c : Option ℕ) → last_of_both (last_of_both a b) c ≡ last_of_both a (last_of_both b c)
last_joins None b c = refl
last_joins (Some x) b c = refl

last_nothing : (a : Option ℕ) → last_of_both a None ≡ a
last_nothing None = refl
last_nothing (Some x) = refl

-- after another list
pub last_after : (cs bs : List (ℕ × ℕ)) (x : ℕ) → last_given (cs ++ bs) x ≡ last_of_both (last_given bs x) (last_given cs x)
last_after [] bs x = sym (last_nothing (last_given bs x))
last_after (a ∷ cs) bs x =
    ap (λ (o : Option ℕ). last_of_both o (if nat_eq a.0 x then Some a.1 else None)) (last_after cs bs x)
    ∙ last_joins (last_given bs x) (last_given cs x) (if nat_eq a.0 x then Some a.1 else None)

-- bytes from a position on
pub placed_below : (xs : List ℕ) (p x : ℕ) → x < p → last_given (enumerate_from p xs) x ≡ None
placed_below [] p x lt = refl
placed_below (y ∷ ys) p x lt =
    ap (λ (o : Option ℕ). last_of_both o (if nat_eq p x then Some y else None)) (placed_below ys (p + 1) x (omega (arith, lt)))
    ∙ cond-false (nat_eq p x) (Some y) None (ne_eqb p x (λ e. omega (arith, lt, e)))

pub placed_above : (xs : List ℕ) (p x : ℕ) → p ≤ x → last_given (enumerate_from p xs) x ≡ slice_get xs (x - p)
placed_above [] p x le = refl
placed_above (y ∷ ys) p x le =
    ⊎_elim
    (λ (lt : p < x).
    let next : suc (x - (p + 1)) ≡ x - p = omega (arith, lt) in
    ap (λ (o : Option ℕ). last_of_both o (if nat_eq p x then Some y else None)) (placed_above ys (p + 1) x (omega (arith, lt)))
    ∙ ap (λ (o : Option ℕ). last_of_both (slice_get ys (x - (p + 1))) o) (cond-false (nat_eq p x) (Some y) None (ne_eqb p x (λ e. omega (arith, lt, e))))
    ∙ last_nothing (slice_get ys (x - (p + 1)))
    ∙ ap (λ (i : ℕ). slice_get (y ∷ ys) i) next)
    (λ (ge : x ≤ p).
    let none : 0 ≡ x - p = omega (arith, ge) in
    ap (λ (o : Option ℕ). last_of_both o (if nat_eq p x then Some y else None)) (placed_below ys (p + 1) x (omega (arith, ge)))
    ∙ cond-true (nat_eq p x) (Some y) None (eq-eqb p x (omega (arith, le, ge)))
    ∙ ap (λ (i : ℕ). slice_get (y ∷ ys) i) none)
    (cases_lt p x)

-- the kept part of a read
read_pairs : (sector : ℕ) (r : Reading) (x : ℕ) → last_given (enumerate_from r.pos (take (kept sector r) r.given)) x
    ≡ (if covers sector r x then slice_get r.given (x - r.pos) else None)
read_pairs sector r x =
    ⊎_elim
    (λ (lt : x < r.pos).
    placed_below (take (kept sector r) r.given) r.pos x lt
    ∙ sym (cond-false (covers sector r x) (slice_get r.given (x - r.pos)) None
    (and_left (nat_le r.pos x) (nat_lt x (r.pos + kept sector r)) (lt-leb r.pos x lt))))
    (λ (ge : r.pos ≤ x).
    placed_above (take (kept sector r) r.given) r.pos x ge
    ∙ ⊎_elim
    (λ (in_kept : x < r.pos + kept sector r).
    slice_get-take (kept sector r) r.given (x - r.pos) (omega (arith, in_kept, ge))
    ∙ sym (cond-true (covers sector r x) (slice_get r.given (x - r.pos)) None
    (and_from (nat_le r.pos x) (nat_lt x (r.pos + kept sector r)) (le-leb r.pos x ge) (lt-ltb x (r.pos + kept sector r) in_kept))))
    (λ (past : r.pos + kept sector r ≤ x).
    slice_get_past (take (kept sector r) r.given) (x - r.pos) (omega (arith, length-take (kept sector r) r.given, past))
    ∙ sym (cond-false (covers sector r x) (slice_get r.given (x - r.pos)) None
    (and_right (nat_le r.pos x) (nat_lt x (r.pos + kept sector r)) (le-ltb x (r.pos + kept sector r) past))))
    (cases_lt x (r.pos + kept sector r)))
    (cases_lt x r.pos)

pub given_is_last :
    (sector : ℕ) (reads : List Reading) (x : ℕ) → last_given (pairs_of sector reads) x ≡ given sector reads x
given_is_last sector [] x = refl
given_is_last sector (r ∷ rs) x =
    last_after (enumerate_from r.pos (take (kept sector r) r.given)) (pairs_of sector rs) x
    ∙ ap (λ (o : Option ℕ). last_of_both o (last_given (enumerate_from r.pos (take (kept sector r) r.given)) x)) (given_is_last sector rs x)
    ∙ ap (λ (o : Option ℕ). last_of_both (given sector rs x) o) (read_pairs sector r x)
