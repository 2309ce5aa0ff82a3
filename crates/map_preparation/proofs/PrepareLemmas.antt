-- What a map is prepared to, one status after the other.
use Rattle.std.proofs.Common.{◌≡◌, ℕ, zero, suc, ◌+◌, ◌-◌, ◌<◌, ◌≤◌, Bool, true, false, ◌&&◌, nat_lt, if◌then◌else◌, List, [], ◌∷◌, length, Some, refl, sym, ◌∙◌, arith, inl, inr, ⊎_elim}
use Rattle.std.specs.List.{slice_get}
use Rattle.std.proofs.lemmas.Bool.{cases_lt}
use Rattle.std.proofs.lemmas.Bool.Decides.{nat_tests}
use Rattle.std.proofs.lemmas.Option.{same_Some, slice_get_within}
use Rattle.block_list.specs.declared.status.Status.{Status}
use Rattle.block_list.specs.declared.status.Status.TheVariants.{NonTried, NonTrimmed, NonScraped, BadSector, Finished}
use Rattle.block_list.specs.Status.{same}
use Rattle.block_list.specs.Map.{Has, marked}
use Rattle.block_list.specs.Places.{IsFirst, IsRangeUp}
use Rattle.block_list.proofs.Places.{length-marked}
use Rattle.block_list.proofs.StretchLemmas.{equal_from_same}
use Rattle.rescue_rules.specs.Preparation.{if_asked, prepared_status, changed_from, IsChanged}
use Rattle.rescue_rules.proofs.MarkLemmas.{marked_inside, marked_outside}
use Rattle.rescue_rules.proofs.PreparationLemmas.{length_changed}
use Rattle.rescue_domain.specs.Search.{IsMarked}
use Rattle.map_preparation.specs.Preparing.{replaced}

-- the list that a change by position makes, and no other
same_changed : (domain : ℕ → Bool) (change : Status → Status) (at : ℕ) (old new : List Status) → length new ≡ length old
    → ((k : ℕ) (s : Status) → slice_get old k ≡ Some s → slice_get new k ≡ Some (if_asked (domain (at + k)) change s))
    → new ≡ changed_from domain change at old
same_changed domain change at [] [] e h = refl
same_changed domain change at [] (y ∷ new) e h = absurd (omega (arith, e))
same_changed domain change at (x ∷ old) [] e h = absurd (omega (arith, e))
same_changed domain change at (x ∷ old) (y ∷ new) e h =
    let z : at + 0 ≡ at = omega arith in
    let first : y ≡ if_asked (domain at) change x = rw z at (same_Some y (if_asked (domain (at + 0)) change x) (h 0 x refl)) in
    let rest = same_changed domain change (at + 1) old new (omega (arith, e))
    (λ k s r. let more : at + 1 + k ≡ at + suc k = omega arith in rw more (h (suc k) s r)) in
    cc

pub changed_is : (domain : ℕ → Bool) (change : Status → Status) (old new : List Status) → IsChanged domain change old new
    → new ≡ changed_from domain change 0 old
changed_is domain change old new c =
    same_changed domain change 0 old new c.size (λ k s h. let z : 0 + k ≡ k = omega arith in rw z (c.each k s h))

has_changed : (domain : ℕ → Bool) (change : Status → Status) (at : ℕ) (map : List Status) (k : ℕ) (s : Status)
    → slice_get map k ≡ Some s → slice_get (changed_from domain change at map) k ≡ Some (if_asked (domain (at + k)) change s)
has_changed domain change at [] k s h = cc
has_changed domain change at (x ∷ map) zero s h =
    let z : at + 0 ≡ at = omega arith in
    let same : x ≡ s = same_Some x s h in
    rw (z, same) refl
has_changed domain change at (x ∷ map) (suc k) s h =
    let more : at + suc k ≡ at + 1 + k = omega arith in
    rw more (has_changed domain change (at + 1) map k s h)

pub change_is_made : (domain : ℕ → Bool) (change : Status → Status) (map : List Status)
    → IsChanged domain change map (changed_from domain change 0 map)
change_is_made domain change map = record {
  size = length_changed domain change 0 map;
  each = λ x s h. let z : 0 + x ≡ x = omega arith in rw z at (has_changed domain change 0 map x s h);
}

-- one change after another
both_asked : (b : Bool) (f g h : Status → Status) → ((s : Status) → g (f s) ≡ h s) → (s : Status)
    → if_asked b g (if_asked b f s) ≡ if_asked b h s
both_asked true f g h e s = e s
both_asked false f g h e s = refl

module _ (domain : ℕ → Bool) (f g h : Status → Status) (e : (s : Status) → g (f s) ≡ h s) (old mid new : List Status) where
  pub changed_both : IsChanged domain f old mid → IsChanged domain g mid new → IsChanged domain h old new
  changed_both p q = record {
    size = q.size ∙ p.size;
    each = λ x s l. rw (← both_asked (domain x) f g h e s) (q.each x (if_asked (domain x) f s) (p.each x s l));
  }

-- what is prepared, one status after the other
pub prepared_parted : (try_again retrim : Bool) (s : Status)
    → replaced BadSector (prepared_status try_again retrim BadSector)
    (replaced NonScraped (prepared_status try_again retrim NonScraped)
    (replaced NonTrimmed (prepared_status try_again retrim NonTrimmed) s)) ≡ prepared_status try_again retrim s
prepared_parted false false NonTried = refl
prepared_parted false true NonTried = refl
prepared_parted true false NonTried = refl
prepared_parted true true NonTried = refl
prepared_parted _ _ _ = refl

module _ (domain : ℕ → Bool) (try_again retrim : Bool) (trimmed scraped bad : Status)
    (a : trimmed ≡ prepared_status try_again retrim NonTrimmed) (b : scraped ≡ prepared_status try_again retrim NonScraped)
    (c : bad ≡ prepared_status try_again retrim BadSector) where
  pub prepared_by_parts : (old first second new : List Status) → IsChanged domain (replaced NonTrimmed trimmed) old first
      → IsChanged domain (replaced NonScraped scraped) first second → IsChanged domain (replaced BadSector bad) second new
      → IsChanged domain (prepared_status try_again retrim) old new
  prepared_by_parts old first second new f s n =
      changed_both domain (replaced NonTrimmed trimmed) (λ s. replaced BadSector bad (replaced NonScraped scraped s))
      (prepared_status try_again retrim) (λ s. rw (a, b, c) (prepared_parted try_again retrim s)) old first new f
      (changed_both domain (replaced NonScraped scraped) (replaced BadSector bad)
      (λ s. replaced BadSector bad (replaced NonScraped scraped s)) (λ s. refl) first second new s n)

-- the positions of a set in front of one
abbrev pub below : (ℕ → Bool) → ℕ → ℕ → Bool
below domain at x = domain x && nat_lt x at

below_is : (domain : ℕ → Bool) (at x : ℕ) → x < at → below domain at x ≡ domain x
below_is domain at x l = grind (arith, nat_tests)

pub below_not : (domain : ℕ → Bool) (at x : ℕ) → at ≤ x → below domain at x ≡ false
below_not domain at x l = grind (arith, nat_tests)

-- a status that isn't replaced
not_replaced : (b c : Bool) (from to s : Status) → same s from ≡ c → (b ≡ true → s ≡ from → ⊥)
    → if_asked b (λ s. if c then to else s) s ≡ s
not_replaced true true from to s e never = absurd (never refl (equal_from_same s from e))
not_replaced true false from to s e never = refl
not_replaced false c from to s e never = refl

left_alone : (b : Bool) (from to s : Status) → (b ≡ true → s ≡ from → ⊥) → if_asked b (replaced from to) s ≡ s
left_alone true from to s never = not_replaced true (same s from) from to s refl never
left_alone false from to s never = refl

was_replaced : (from to : Status) → replaced from to from ≡ to
was_replaced NonTried to = refl
was_replaced _ to = refl

-- of a domain, the positions in front of one have a status replaced
module _ (domain : ℕ → Bool) (from to : Status) (at : ℕ) (old mid : List Status) (i : IsChanged (below domain at) (replaced from to) old mid) where
  pub as_it_was : (x : ℕ) (s : Status) → at ≤ x → Has old s x → Has mid s x
  as_it_was x s l h = rw (below_not domain at x l) at (i.each x s h)

  as_changed : (x : ℕ) (s : Status) → x < at → Has old s x → Has mid (if_asked (domain x) (replaced from to) s) x
  as_changed x s l h = rw (below_is domain at x l) at (i.each x s h)

  pub replaced_all : ((x : ℕ) → at ≤ x → IsMarked domain mid from x → ⊥) → IsChanged domain (replaced from to) old mid
  replaced_all none = record {
    size = i.size;
    each = λ x s h. ⊎_elim
        (λ (l : x < at). as_changed x s l h)
        (λ (l : at ≤ x).
        let m = as_it_was x s l h in
        rw (left_alone (domain x) from to s (λ d e. none x l (record { within = d; has = rw e at m }))) m)
        (cases_lt x at);
  }

  module _ (start stop : ℕ) (first : IsFirst (IsMarked domain mid from) at start) (up : IsRangeUp (IsMarked domain mid from) start stop) where
    pub range_within : stop ≤ length mid
    range_within =
        let last = up.within (stop - 1) (omega (arith, up.begun)) (omega (arith, up.begun)) in
        omega (arith, slice_get_within mid (stop - 1) from last.has, up.begun)

    pub replaced_more : (new : List Status) → new ≡ marked mid start (stop - start) to
        → IsChanged (below domain stop) (replaced from to) old new
    replaced_more new is =
        let there : start + (stop - start) ≤ length mid = omega (arith, range_within, up.begun) in
        let ends : start + (stop - start) ≡ stop = omega (arith, up.begun) in
        rw is (record {
          size = length-marked mid start (stop - start) to there ∙ i.size;
          each = λ x s h. ⊎_elim
              (λ (l : x < start).
              let apart = marked_outside mid start (stop - start) to x there (inl l) in
              rw (below_is domain stop x (omega (arith, up.begun)), apart) (⊎_elim
              (λ (m : x < at). as_changed x s m h)
              (λ (m : at ≤ x).
              let was = as_it_was x s m h in
              rw (left_alone (domain x) from to s (λ d e. omega (arith, first.least x m (record { within = d; has = rw e at was })))) was)
              (cases_lt x at)))
              (λ (l : start ≤ x). ⊎_elim
              (λ (m : x < stop).
              let k = up.within x l m in
              let was = as_it_was x s (omega (arith, first.after)) h in
              let e : s ≡ from = same_Some s from (sym was ∙ k.has) in
              rw (below_is domain stop x m, k.within, e, was_replaced from to)
              (marked_inside mid start (stop - start) to x there l (omega arith)))
              (λ (m : stop ≤ x).
              let apart = marked_outside mid start (stop - start) to x there (inr (omega arith)) in
              rw (below_not domain stop x m, apart) (as_it_was x s (omega (arith, first.after, up.begun)) h))
              (cases_lt x stop))
              (cases_lt x start);
        })
