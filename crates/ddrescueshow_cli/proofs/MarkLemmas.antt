-- What a cell shows is as bad as the worst of its positions.
use Rattle.std.proofs.Common.{◌≡◌, ◌⊎◌, ℕ, zero, suc, ◌+◌, ◌-◌, ◌<◌, ◌≤◌, Bool, true, false, cond, ◌&&◌, ◌||◌, List, Option, Some, None, refl, sym, ap, subst, ◌∙◌, inl, inr, ⊎_elim, arith}
use Rattle.std.specs.List.{list_any, range_with_len}
use Rattle.std.proofs.lemmas.Bool.{and_parts, cases_lt}
use Rattle.block_list.specs.declared.status.Status.{Status}
use Rattle.block_list.specs.declared.status.Status.TheVariants.{NonTried, NonTrimmed, NonScraped, BadSector, Finished}
use Rattle.block_list.specs.Status.{same}
use Rattle.block_list.proofs.StretchLemmas.{same_self}
use Rattle.map_counts.specs.At.{status_at}
use Rattle.map_counts.specs.Summary.{has_status}
use Rattle.ddrescueshow_cli.specs.Cells.{begin_of, end_of, has_some, worst_by}
use Rattle.ddrescueshow_cli.specs.Laws.{HasAsBad, MarksHideNothing, badness, badness_of}

-- ---- positions of a set

or_right : (b c : Bool) → c ≡ true → (b || c) ≡ true
or_right true c is = refl
or_right false c is = is

or_left : (b c : Bool) → b ≡ true → (b || c) ≡ true
or_left true c is = refl
or_left false c is = absurd (cc)

or_parts : (b c : Bool) → (b || c) ≡ true → (b ≡ true) ⊎ (c ≡ true)
or_parts true c is = inl refl
or_parts false c is = inr is

any_here : (p : ℕ → Bool) (from n x : ℕ) → from ≤ x → x < from + n → p x ≡ true
    → list_any p (range_with_len from n) ≡ true
any_here p from zero x low high is = absurd (omega (arith, low, high))
any_here p from (suc n) x low high is = ⊎_elim
    (λ (later : from < x).
    or_right (p from) (list_any p (range_with_len (from + 1) n))
    (any_here p (from + 1) n x (omega (arith, later)) (omega (arith, high)) is))
    (λ (first : x ≤ from).
    let here : from ≡ x = omega (arith, low, first) in
    or_left (p from) (list_any p (range_with_len (from + 1) n)) (ap p here ∙ is))
    (cases_lt from x)

record IsFound (p : ℕ → Bool) (from n : ℕ) : Type 0 where
  position : ℕ
  low : from ≤ position
  high : position < from + n
  is : p position ≡ true

any_found : (p : ℕ → Bool) (from n : ℕ) → list_any p (range_with_len from n) ≡ true → IsFound p from n
any_found p from zero is = absurd (cc)
any_found p from (suc n) is = ⊎_elim
    (λ (first : p from ≡ true). record { position = from; low = omega arith; high = omega arith; is = first })
    (λ (later : list_any p (range_with_len (from + 1) n) ≡ true).
    let f : IsFound p (from + 1) n = any_found p (from + 1) n later in
    record { position = f.position; low = omega (arith, f.low); high = omega (arith, f.high); is = f.is })
    (or_parts (p from) (list_any p (range_with_len (from + 1) n)) is)

-- ---- the worst of some statuses

-- what is shown is there, and nothing that is there is worse
record IsWorst (is_there : Status → Bool) (shown : Option Status) : Type 0 where
  there : (t : Status) → shown ≡ Some t → is_there t ≡ true
  worst : (t : Status) → is_there t ≡ true → badness t ≤ badness_of shown

abbrev chosen : (bad scraped trimmed tried finished : Bool) → Option Status
chosen bad scraped trimmed tried finished =
    cond bad (Some BadSector) (cond scraped (Some NonScraped) (cond trimmed (Some NonTrimmed) (cond tried (Some NonTried)
    (cond finished (Some Finished) None))))

same_status : (s : Status) (t : Status) → Some s ≡ Some t → s ≡ t
same_status s t e = cc

chosen_is : (p : Status → Bool) (bad scraped trimmed tried finished : Bool) → p BadSector ≡ bad → p NonScraped ≡ scraped
    → p NonTrimmed ≡ trimmed → p NonTried ≡ tried → p Finished ≡ finished
    → IsWorst p (chosen bad scraped trimmed tried finished)
chosen_is p true c d e f hb hc hd he hf = record {
  there = λ t is. subst (λ (s : Status). p s ≡ true) (same_status BadSector t is) hb;
  worst = at_most;
} where
  at_most : (t : Status) → p t ≡ true → badness t ≤ 5
  at_most BadSector is = omega arith
  at_most NonScraped is = omega arith
  at_most NonTrimmed is = omega arith
  at_most NonTried is = omega arith
  at_most Finished is = omega arith
chosen_is p false true d e f hb hc hd he hf = record {
  there = λ t is. subst (λ (s : Status). p s ≡ true) (same_status NonScraped t is) hc;
  worst = at_most;
} where
  at_most : (t : Status) → p t ≡ true → badness t ≤ 4
  at_most BadSector is = absurd (cc)
  at_most NonScraped is = omega arith
  at_most NonTrimmed is = omega arith
  at_most NonTried is = omega arith
  at_most Finished is = omega arith
chosen_is p false false true e f hb hc hd he hf = record {
  there = λ t is. subst (λ (s : Status). p s ≡ true) (same_status NonTrimmed t is) hd;
  worst = at_most;
} where
  at_most : (t : Status) → p t ≡ true → badness t ≤ 3
  at_most BadSector is = absurd (cc)
  at_most NonScraped is = absurd (cc)
  at_most NonTrimmed is = omega arith
  at_most NonTried is = omega arith
  at_most Finished is = omega arith
chosen_is p false false false true f hb hc hd he hf = record {
  there = λ t is. subst (λ (s : Status). p s ≡ true) (same_status NonTried t is) he;
  worst = at_most;
} where
  at_most : (t : Status) → p t ≡ true → badness t ≤ 2
  at_most BadSector is = absurd (cc)
  at_most NonScraped is = absurd (cc)
  at_most NonTrimmed is = absurd (cc)
  at_most NonTried is = omega arith
  at_most Finished is = omega arith
chosen_is p false false false false true hb hc hd he hf = record {
  there = λ t is. subst (λ (s : Status). p s ≡ true) (same_status Finished t is) hf;
  worst = at_most;
} where
  at_most : (t : Status) → p t ≡ true → badness t ≤ 1
  at_most BadSector is = absurd (cc)
  at_most NonScraped is = absurd (cc)
  at_most NonTrimmed is = absurd (cc)
  at_most NonTried is = absurd (cc)
  at_most Finished is = omega arith
chosen_is p false false false false false hb hc hd he hf =
    record { there = λ t is. absurd (cc); worst = at_most } where
      at_most : (t : Status) → p t ≡ true → badness t ≤ 0
      at_most BadSector is = absurd (cc)
      at_most NonScraped is = absurd (cc)
      at_most NonTrimmed is = absurd (cc)
      at_most NonTried is = absurd (cc)
      at_most Finished is = absurd (cc)

worst_is : (p : Status → Bool) → IsWorst p (worst_by p)
worst_is p = chosen_is p (p BadSector) (p NonScraped) (p NonTrimmed) (p NonTried) (p Finished) refl refl refl refl refl

-- ---- a cell

some_bad : (s : Status) → 0 < badness s
some_bad NonTried = omega arith
some_bad _ = omega arith

same_is : (s t : Status) → same s t ≡ true → s ≡ t
same_is NonTried NonTried e = refl
same_is NonTrimmed NonTrimmed e = refl
same_is NonScraped NonScraped e = refl
same_is BadSector BadSector e = refl
same_is Finished Finished e = refl
same_is s t e = absurd (cc)

module _ (domain : ℕ → Bool) (statuses : List Status) (from to : ℕ) (s : Status) where
  abbrev there_by : Status → Bool
  there_by t = has_some domain statuses from to t

  found_bad : (shown : Option Status) → IsWorst there_by shown → badness s ≤ badness_of shown
      → HasAsBad domain statuses from to s
  found_bad None w bad = absurd (omega (arith, some_bad s, bad))
  found_bad (Some t) w bad =
      let f : IsFound (has_status domain statuses t) from (to - from)
      = any_found (has_status domain statuses t) from (to - from) (w.there t refl) in
      let parts = and_parts (domain f.position) (same (status_at statuses f.position) t) f.is in
      let is : status_at statuses f.position ≡ t = same_is (status_at statuses f.position) t parts.1 in
      record {
        position = f.position;
        after = f.low;
        before = omega (arith, f.low, f.high);
        inside = parts.0;
        bad = subst (λ (u : Status). badness s ≤ badness u) (sym is) bad;
      }

  shown_bad : HasAsBad domain statuses from to s → badness s ≤ badness_of (worst_by there_by)
  shown_bad h =
      let u : Status = status_at statuses h.position in
      let has : has_status domain statuses u h.position ≡ true
      = ap (λ (b : Bool). b && same u u) h.inside ∙ same_self u in
      let there : there_by u ≡ true
      = any_here (has_status domain statuses u) from (to - from) h.position h.after (omega (arith, h.after, h.before))
      has in
      omega (arith, (worst_is there_by).worst u there, h.bad)

pub marks_hide_nothing : MarksHideNothing
marks_hide_nothing f domain statuses k s = (
  found_bad domain statuses (begin_of f k) (end_of f k) s (worst_by (has_some domain statuses (begin_of f k) (end_of f k)))
      (worst_is (has_some domain statuses (begin_of f k) (end_of f k))),
  shown_bad domain statuses (begin_of f k) (end_of f k) s,
)
