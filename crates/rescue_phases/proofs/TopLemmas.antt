-- Where what is left of a map ends, and how far a read reaches.
use Rattle.std.proofs.Common.{◌≡◌, ◌⊎◌, ℕ, ◌+◌, ◌<◌, ◌≤◌, min, true, false, Option, Some, None, length, refl, sym, ap, subst, ◌∙◌, arith, inl, inr, ⊎_elim}
use Rattle.std.proofs.lemmas.Bool.{cases_Bool, ltb-true, lt-ltb, cond-true, cond-false}
use Rattle.faulty_source.specs.Ends.{is_before}
use Rattle.faulty_source.specs.Journal.{Reading}
use Rattle.rescue_rules.specs.Machine.{Machine}
use Rattle.rescue_rules.specs.Step.{earlier, over_after, reach}
use Rattle.rescue_rules.proofs.OverLemmas.{before_was}

-- the lesser of a length and an end, if one was met
abbrev pub top_by : ℕ → Option ℕ → ℕ
top_by len None = len
top_by len (Some end) = min len end

abbrev pub top_of : Machine → ℕ
top_of m = top_by (length m.map) m.tally.over

top_by_within : (len : ℕ) (over : Option ℕ) → top_by len over ≤ len
top_by_within len None = omega arith
top_by_within len (Some end) = omega arith

pub top_within : (m : Machine) → top_of m ≤ length m.map
top_within m = top_by_within (length m.map) m.tally.over

below_by : (len : ℕ) (over : Option ℕ) (x : ℕ) → x < len → is_before over x ≡ true → x < top_by len over
below_by len None x within before = within
below_by len (Some end) x within before = omega (arith, within, ltb-true x end before)

pub below_top : (m : Machine) (x : ℕ) → x < length m.map → is_before m.tally.over x ≡ true → x < top_of m
below_top m x within before = below_by (length m.map) m.tally.over x within before

-- no read reaches beyond what it asked for
pub reach_few : (r : Reading) → length r.given ≤ r.asked → reach r ≤ r.pos + r.asked
reach_few r few =
    ⊎_elim (λ (on : r.ended ≡ true). omega (arith, cond-true r.ended (length r.given) r.asked on, few))
    (λ (off : r.ended ≡ false). omega (arith, cond-false r.ended (length r.given) r.asked off))
    (cases_Bool r.ended)

top_earlier : (len : ℕ) (over : Option ℕ) (end : ℕ) → top_by len (Some (earlier over end)) ≤ end
top_earlier len None end = omega arith
top_earlier len (Some other) end = omega arith

-- it reaches over all of that, or to where the map now ends
pub takes_far : (m n : Machine) (r : Reading) → n.tally.over ≡ over_after m r → length n.map ≡ length m.map
    → ((r.pos + r.asked ≤ reach r) × (top_of n ≤ top_of m)) ⊎ (top_of n ≤ reach r)
takes_far m n r over size =
    ⊎_elim
    (λ (on : r.ended ≡ true).
    let end : ℕ = r.pos + length r.given in
    let is : n.tally.over ≡ Some (earlier m.tally.over end) =
    subst (λ (o : Option ℕ). n.tally.over ≡ o) (cond-true r.ended (Some (earlier m.tally.over end)) m.tally.over on) over in
    let low : top_of n ≤ end =
    subst (λ (o : Option ℕ). top_by (length n.map) o ≤ end) (sym is) (top_earlier (length n.map) m.tally.over end) in
    inr (omega (arith, low, cond-true r.ended (length r.given) r.asked on)))
    (λ (off : r.ended ≡ false).
    let is : n.tally.over ≡ m.tally.over =
    subst (λ (o : Option ℕ). n.tally.over ≡ o)
    (cond-false r.ended (Some (earlier m.tally.over (r.pos + length r.given))) m.tally.over off) over in
    let same : top_of n ≡ top_of m = ap (top_by (length n.map)) is ∙ ap (λ (k : ℕ). top_by k m.tally.over) size in
    inl (omega (arith, cond-false r.ended (length r.given) r.asked off), omega (arith, same)))
    (cases_Bool r.ended)

pub reach_some : (r : Reading) → r.pos ≤ reach r
reach_some r = omega arith

-- what was asked for and is still left was reached
earlier_low : (over : Option ℕ) (end x : ℕ) → is_before (Some (earlier over end)) x ≡ true → x < end
earlier_low None end x before = ltb-true x end before
earlier_low (Some other) end x before = omega (arith, ltb-true x (min other end) before)

pub before_reach : (m : Machine) (r : Reading) (x : ℕ) → is_before (over_after m r) x ≡ true → x < r.pos + r.asked
    → x < reach r
before_reach m r x before to =
    ⊎_elim
    (λ (on : r.ended ≡ true).
    let end : ℕ = r.pos + length r.given in
    let low : x < end = earlier_low m.tally.over end x
    (subst (λ (o : Option ℕ). is_before o x ≡ true) (cond-true r.ended (Some (earlier m.tally.over end)) m.tally.over on) before) in
    omega (arith, low, cond-true r.ended (length r.given) r.asked on))
    (λ (off : r.ended ≡ false). omega (arith, to, cond-false r.ended (length r.given) r.asked off))
    (cases_Bool r.ended)

-- what lies below where the map ends is left
before_by : (len : ℕ) (over : Option ℕ) (x : ℕ) → x < top_by len over → is_before over x ≡ true
before_by len None x below = refl
before_by len (Some end) x below = lt-ltb x end (omega (arith, below))

pub before_top : (m : Machine) (x : ℕ) → x < top_of m → is_before m.tally.over x ≡ true
before_top m x below = before_by (length m.map) m.tally.over x below

-- and was so before a read
pub top_less : (m n : Machine) (r : Reading) (x : ℕ) → n.tally.over ≡ over_after m r → length n.map ≡ length m.map
    → x < top_of n → x < top_of m
top_less m n r x over size below =
    below_top m x (omega (arith, below, top_within n, size))
    (before_was m r x (subst (λ (o : Option ℕ). is_before o x ≡ true) over (before_top n x below)))
