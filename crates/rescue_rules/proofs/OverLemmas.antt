-- What is left of a domain, after a read that may have met the input's end.
use Rattle.std.proofs.Common.{◌≡◌, ℕ, ◌+◌, ◌<◌, ◌≤◌, Bool, true, false, ◌||◌, nat_lt, min, Option, Some, None, length, refl, sym, ap, subst, ◌∙◌, arith, ⊎_elim}
use Rattle.std.specs.List.{slice_get}
use Rattle.std.proofs.lemmas.Bool.{cases_Bool, ltb-true, lt-ltb, and_parts, and_from, or_parts, not-true, not-false, cond-true, cond-false, cond_both}
use Rattle.faulty_source.specs.Ends.{is_before}
use Rattle.faulty_source.specs.Journal.{Reading, is_whole, is_failed, kept}
use Rattle.rescue_rules.specs.Setting.{Setting}
use Rattle.rescue_rules.specs.Machine.{Machine, has_taken, is_live, is_wanted}
use Rattle.rescue_rules.specs.Step.{earlier, over_after}
use Rattle.rescue_rules.proofs.GivenLemmas.{kept_whole, kept_ended}

-- what lies before two ends lies before the earlier one
before_earlier : (over : Option ℕ) (end x : ℕ) → is_before over x ≡ true → x < end → nat_lt x (earlier over end) ≡ true
before_earlier None end x before lt = lt-ltb x end lt
before_earlier (Some other) end x before lt =
    lt-ltb x (min other end) (omega (arith, ltb-true x other before, lt))

-- what was left of the domain before a read is left after it
pub before_over : (m : Machine) (r : Reading) (x : ℕ) → is_before m.tally.over x ≡ true → x < r.pos
    → is_before (over_after m r) x ≡ true
before_over m r x before lt =
    cond_both r.ended (Some (earlier m.tally.over (r.pos + length r.given))) m.tally.over (λ (o : Option ℕ). is_before o x ≡ true)
    (λ ended. before_earlier m.tally.over (r.pos + length r.given) x before (omega (arith, lt)))
    (λ on. before)

-- a failed read met no end
pub failed_over : (m : Machine) (r : Reading) → is_failed r ≡ true → over_after m r ≡ m.tally.over
failed_over m r failed =
    cond-false r.ended (Some (earlier m.tally.over (r.pos + length r.given))) m.tally.over
    (or_parts (is_whole r) r.ended (not-true (is_whole r || r.ended) failed)).1

-- what lies before the earlier of two ends lies before both
earlier_first : (over : Option ℕ) (end x : ℕ) → nat_lt x (earlier over end) ≡ true → is_before over x ≡ true
earlier_first None end x before = refl
earlier_first (Some other) end x before = lt-ltb x other (omega (arith, ltb-true x (min other end) before))

earlier_second : (over : Option ℕ) (end x : ℕ) → nat_lt x (earlier over end) ≡ true → x < end
earlier_second None end x before = ltb-true x end before
earlier_second (Some other) end x before = omega (arith, ltb-true x (min other end) before)

-- what is left of the domain after a read was left before it
pub before_was : (m : Machine) (r : Reading) (x : ℕ) → is_before (over_after m r) x ≡ true → is_before m.tally.over x ≡ true
before_was m r x =
    cond_both r.ended (Some (earlier m.tally.over (r.pos + length r.given))) m.tally.over
    (λ (o : Option ℕ). is_before o x ≡ true → is_before m.tally.over x ≡ true)
    (λ ended before. earlier_first m.tally.over (r.pos + length r.given) x before)
    (λ on before. before)

pub live_was : (s : Setting) (m n : Machine) (r : Reading) (x : ℕ) → n.tally.over ≡ over_after m r → is_live s n x ≡ true
    → is_live s m x ≡ true
live_was s m n r x is live =
    let parts = and_parts (s.domain x) (is_before n.tally.over x) live in
    and_from (s.domain x) (is_before m.tally.over x) parts.0
    (before_was m r x (subst (λ (o : Option ℕ). is_before o x ≡ true) is parts.1))

pub live_before : (s : Setting) (m : Machine) (x : ℕ) → is_live s m x ≡ true → is_before m.tally.over x ≡ true
live_before s m x live = (and_parts (s.domain x) (is_before m.tally.over x) live).1

-- what is asked for is left
pub wanted_live : (s : Setting) (m : Machine) (x : ℕ) → is_wanted s m x ≡ true → is_live s m x ≡ true
wanted_live s m x wanted = (and_parts (is_live s m x) (has_taken m.passes (slice_get m.map x)) wanted).0

pub wanted_before : (s : Setting) (m : Machine) (x : ℕ) → is_wanted s m x ≡ true → is_before m.tally.over x ≡ true
wanted_before s m x wanted = live_before s m x (wanted_live s m x wanted)

-- A read that didn't fail kept all that it asked for of what is left after it.
pub good_reaches : (m : Machine) (r : Reading) (sector x : ℕ) → is_failed r ≡ false → is_before (over_after m r) x ≡ true
    → r.pos + kept sector r ≤ x → r.pos + r.asked ≤ x
good_reaches m r sector x good before far =
    ⊎_elim
    (λ (whole : is_whole r ≡ true). omega (arith, kept_whole sector r whole, far))
    (λ (part : is_whole r ≡ false).
    let either : (is_whole r || r.ended) ≡ true = not-false (is_whole r || r.ended) good in
    let ended : r.ended ≡ true = ap (λ (b : Bool). b || r.ended) (sym part) ∙ either in
    let over : over_after m r ≡ Some (earlier m.tally.over (r.pos + length r.given))
    = cond-true r.ended (Some (earlier m.tally.over (r.pos + length r.given))) m.tally.over ended in
    let low : x < r.pos + length r.given
    = earlier_second m.tally.over (r.pos + length r.given) x (subst (λ (o : Option ℕ). is_before o x ≡ true) over before) in
    absurd (omega (arith, kept_ended sector r part ended, low, far)))
    (cases_Bool (is_whole r))
