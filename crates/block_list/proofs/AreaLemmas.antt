-- Areas are counted by where they begin.
use Rattle.std.proofs.Common.{◌≡◌, ℕ, zero, suc, ◌+◌, ◌-◌, ◌<◌, ◌≤◌, Bool, true, false, not, ◌&&◌, ◌||◌, if◌then◌else◌, nat_le, nat_lt, List, [], ◌∷◌, length, arith, ⊎_elim, refl, subst, ap, ◌∙◌, sym}
use Rattle.std.specs.Prelude.{count_by}
use Rattle.std.specs.List.{range_with_len}
use Rattle.std.proofs.lemmas.Bool.{cases_lt, cases_Bool, le-leb, lt-ltb, le-ltb, lt-leb, and_from, and_left, and_right, or_from, or_left, false_from_ne_true}
use Rattle.std.proofs.lemmas.List.Sums.{sum_by-cons}
use Rattle.std.proofs.Math.Bool.{and-true}
use Rattle.block_list.specs.Areas.{begins_area, AreApart, holds_one, AreasAreIntervals, AreasChangeWithin}

-- ranges of a set from a place on, the place below which isn't of the set
record Outside (set : ℕ → Bool) (a n : ℕ) : Type 0 where
  ranges : List (ℕ × ℕ)
  are : AreApart a ranges
  below : (x : ℕ) → x < a → holds_one ranges x ≡ false
  above : (x : ℕ) → a ≤ x → holds_one ranges x ≡ set x
  count : length ranges ≡ count_by (begins_area set) (range_with_len a n)

-- the same where a range has begun below: it goes up to an end
record Inside (set : ℕ → Bool) (a n : ℕ) : Type 0 where
  end : ℕ
  from : a ≤ end
  ranges : List (ℕ × ℕ)
  are : AreApart (end + 1) ranges
  below : (x : ℕ) → x < a → holds_one ranges x ≡ false
  above : (x : ℕ) → a ≤ x → (nat_lt x end || holds_one ranges x) ≡ set x
  count : length ranges ≡ count_by (begins_area set) (range_with_len a n)

weaken : (low low' : ℕ) (ranges : List (ℕ × ℕ)) → low ≤ low' → AreApart low' ranges → AreApart low ranges
weaken low low' [] le are = tt
weaken low low' (r ∷ rs) le are = (omega (arith, le, are.0), are.1, are.2)

-- at the next place
begins_next : (set : ℕ → Bool) (a : ℕ) → begins_area set (a + 1) ≡ (set (a + 1) && not (set a))
begins_next set a =
    let s : suc a ≡ a + 1 = omega arith in
    subst (λ (y : ℕ). begins_area set y ≡ (set y && not (set a))) s refl

next_out : (set : ℕ → Bool) (a : ℕ) → set a ≡ false → begins_area set (a + 1) ≡ set (a + 1)
next_out set a f = begins_next set a ∙ ap (λ b. set (a + 1) && not b) f ∙ and-true (set (a + 1))

next_in : (set : ℕ → Bool) (a : ℕ) → set a ≡ true → begins_area set (a + 1) ≡ false
next_in set a t = begins_next set a ∙ ap (λ b. set (a + 1) && not b) t ∙ and_right (set (a + 1)) false refl

abbrev pub weight : Bool → ℕ
weight b = if b then 1 else 0

count_at : (p : ℕ → Bool) (a n : ℕ)
    → count_by p (range_with_len a (suc n)) ≡ (if p a then 1 else 0) + count_by p (range_with_len (a + 1) n)
count_at p a n = sum_by-cons (λ (x : ℕ). if p x then 1 else 0) a (range_with_len (a + 1) n)

count_yes : (p : ℕ → Bool) (a n : ℕ) → p a ≡ true
    → count_by p (range_with_len a (suc n)) ≡ 1 + count_by p (range_with_len (a + 1) n)
count_yes p a n t = count_at p a n ∙ ap (λ (b : Bool). (if b then 1 else 0) + count_by p (range_with_len (a + 1) n)) t

count_no : (p : ℕ → Bool) (a n : ℕ) → p a ≡ false
    → count_by p (range_with_len a (suc n)) ≡ count_by p (range_with_len (a + 1) n)
count_no p a n f =
    let e : weight (p a) ≡ 0 = ap weight f in omega (arith, count_at p a n, e)

abbrev Both : (set : ℕ → Bool) (a n : ℕ) → Type 0
Both set a n = (begins_area set a ≡ set a → Outside set a n) × (begins_area set a ≡ false → Inside set a n)

-- what lies at a place or above it
place_up : (P : ℕ → Type 0) (a : ℕ) → P a → ((x : ℕ) → a + 1 ≤ x → P x) → (x : ℕ) → a ≤ x → P x
place_up P a here up x le =
    ⊎_elim (λ (lt : a < x). up x (omega (arith, lt)))
    (λ (ge : x ≤ a). let e : a ≡ x = omega (arith, le, ge) in subst P e here) (cases_lt a x)

end_out : (set : ℕ → Bool) (a : ℕ) → ((x : ℕ) → set x ≡ true → x < a) → Outside set a 0
end_out set a bound = record {
  ranges = [];
  are = tt;
  below = λ x lt. refl;
  above = λ x le. sym (false_from_ne_true (set x) (λ t. omega (arith, bound x t, le)));
  count = refl;
}

end_in : (set : ℕ → Bool) (a : ℕ) → ((x : ℕ) → set x ≡ true → x < a) → Inside set a 0
end_in set a bound = record {
  end = a;
  from = omega arith;
  ranges = [];
  are = tt;
  below = λ x lt. refl;
  above = λ x le. or_from (nat_lt x a) false (le-ltb x a le) refl ∙ sym (false_from_ne_true (set x) (λ t. omega (arith, bound x t, le)));
  count = refl;
}

-- from the next place, where this one isn't of the set
out_out : (set : ℕ → Bool) (a n : ℕ) → set a ≡ false → begins_area set a ≡ false → Outside set (a + 1) n
    → Outside set a (suc n)
out_out set a n f b o = record {
  ranges = o.ranges;
  are = weaken a (a + 1) o.ranges (omega arith) o.are;
  below = λ x lt. o.below x (omega (arith, lt));
  above = place_up (λ x. holds_one o.ranges x ≡ set x) a (o.below a (omega arith) ∙ sym f) o.above;
  count = o.count ∙ sym (count_no (begins_area set) a n b);
}

out_in : (set : ℕ → Bool) (a n : ℕ) → set a ≡ false → begins_area set a ≡ false → Outside set (a + 1) n
    → Inside set a (suc n)
out_in set a n f b o = record {
  end = a;
  from = omega arith;
  ranges = o.ranges;
  are = o.are;
  below = λ x lt. o.below x (omega (arith, lt));
  above = place_up (λ x. (nat_lt x a || holds_one o.ranges x) ≡ set x) a
      (or_from (nat_lt a a) (holds_one o.ranges a) (le-ltb a a (omega arith)) (o.below a (omega arith)) ∙ sym f)
      (λ x le. ap (λ (c : Bool). c || holds_one o.ranges x) (le-ltb x a (omega (arith, le))) ∙ o.above x le);
  count = o.count ∙ sym (count_no (begins_area set) a n b);
}

-- where this one is
in_in : (set : ℕ → Bool) (a n : ℕ) → set a ≡ true → begins_area set a ≡ false → Inside set (a + 1) n
    → Inside set a (suc n)
in_in set a n t b i = record {
  end = i.end;
  from = omega (arith, i.from);
  ranges = i.ranges;
  are = i.are;
  below = λ x lt. i.below x (omega (arith, lt));
  above = place_up (λ x. (nat_lt x i.end || holds_one i.ranges x) ≡ set x) a
      (or_left (nat_lt a i.end) (holds_one i.ranges a) (lt-ltb a i.end (omega (arith, i.from))) ∙ sym t) i.above;
  count = i.count ∙ sym (count_no (begins_area set) a n b);
}

in_out : (set : ℕ → Bool) (a n : ℕ) → set a ≡ true → begins_area set a ≡ true → Inside set (a + 1) n
    → Outside set a (suc n)
in_out set a n t b i = record {
  ranges = (a, i.end) ∷ i.ranges;
  are = (omega arith, omega (arith, i.from), i.are);
  below = λ x lt.
      or_from (nat_le a x && nat_lt x i.end) (holds_one i.ranges x) (and_left (nat_le a x) (nat_lt x i.end) (lt-leb a x lt))
      (i.below x (omega (arith, lt)));
  above = place_up (λ x. ((nat_le a x && nat_lt x i.end) || holds_one i.ranges x) ≡ set x) a
      (or_left (nat_le a a && nat_lt a i.end) (holds_one i.ranges a)
      (and_from (nat_le a a) (nat_lt a i.end) (le-leb a a (omega arith)) (lt-ltb a i.end (omega (arith, i.from)))) ∙ sym t)
      (λ x le. ap (λ (c : Bool). (c && nat_lt x i.end) || holds_one i.ranges x) (le-leb a x (omega (arith, le))) ∙ i.above x le);
  count = omega (arith, i.count, count_yes (begins_area set) a n b);
}

both : (set : ℕ → Bool) (n a : ℕ) → ((x : ℕ) → set x ≡ true → x < a + n) → Both set a n
both set zero a bound =
    let at : (x : ℕ) → set x ≡ true → x < a = λ x t. omega (arith, bound x t) in
    ((λ b. end_out set a at), (λ b. end_in set a at))
both set (suc n) a bound =
    let next : Both set (a + 1) n = both set n (a + 1) (λ x t. omega (arith, bound x t)) in
    ⊎_elim
    (λ (t : set a ≡ true).
    let inside : Inside set (a + 1) n = next.1 (next_in set a t) in
    ((λ b. in_out set a n t (b ∙ t) inside), (λ b. in_in set a n t b inside)))
    (λ (f : set a ≡ false).
    let outside : Outside set (a + 1) n = next.0 (next_out set a f) in
    ((λ b. out_out set a n f (b ∙ f) outside), (λ b. out_in set a n f b outside)))
    (cases_Bool (set a))

pub areas_are_intervals : AreasAreIntervals
areas_are_intervals set end bound =
    let o : Outside set 0 end = (both set end 0 (λ x t. omega (arith, bound x t))).0 refl in
    (o.ranges, o.are, (λ x. o.above x (omega arith)), o.count)

-- counts over ranges
pub count_same : (f g : ℕ → Bool) (n a : ℕ) → ((x : ℕ) → a ≤ x → x < a + n → f x ≡ g x)
    → count_by f (range_with_len a n) ≡ count_by g (range_with_len a n)
count_same f g zero a same = refl
count_same f g (suc n) a same =
    let rest = count_same f g n (a + 1) (λ x from to. same x (omega (arith, from)) (omega (arith, to))) in
    let here : weight (f a) ≡ weight (g a) = ap weight (same a (omega arith) (omega arith)) in
    omega (arith, count_at f a n, count_at g a n, rest, here)

pub count_split : (f : ℕ → Bool) (m a n k b : ℕ) → k ≡ m + n → b ≡ a + m
    → count_by f (range_with_len a k) ≡ count_by f (range_with_len a m) + count_by f (range_with_len b n)
count_split f zero a n k b all at =
    let e : k ≡ n = omega (arith, all) in let d : b ≡ a = omega (arith, at) in rw (e, d) (omega arith)
count_split f (suc m) a n zero b all at = absurd (omega (arith, all))
count_split f (suc m) a n (suc k) b all at =
    let rest = count_split f m (a + 1) n k b (omega (arith, all)) (omega (arith, at)) in
    omega (arith, count_at f a k, count_at f a m, rest)

begins_same : (old new : ℕ → Bool) (x : ℕ) → new x ≡ old x → ((y : ℕ) → y + 1 ≡ x → new y ≡ old y)
    → begins_area new x ≡ begins_area old x
begins_same old new zero here before = here
begins_same old new (suc x) here before =
    ap (λ (b : Bool). b && not (new x)) here ∙ ap (λ (b : Bool). old (suc x) && not b) (before x (omega arith))

pub areas_change_within : AreasChangeWithin
areas_change_within old new p q end some inside stands =
    let m : ℕ = q + 1 - p in
    let n : ℕ = end - (q + 1) in
    let front = count_same (begins_area new) (begins_area old) p 0
    (λ x from to. begins_same old new x (stands.front x (omega (arith, to))) (λ y e. stands.front y (omega (arith, e, to)))) in
    let back = count_same (begins_area new) (begins_area old) n (q + 1)
    (λ x from to. begins_same old new x (stands.back x (omega (arith, from))) (λ y e. stands.back y (omega (arith, e, from)))) in
    let split1 = λ (f : ℕ → Bool). count_split f p 0 (m + n) end p (omega (arith, some, inside)) (omega arith) in
    let split2 = λ (f : ℕ → Bool). count_split f m p n (m + n) (q + 1) refl (omega (arith, some)) in
    omega (arith, front, back, split1 (begins_area new), split2 (begins_area new), split1 (begins_area old), split2 (begins_area old))
