-- What an output holds at first of the positions that its mapfile calls finished, as something that was given.
use Rattle.std.proofs.Common.{◌≡◌, ◌⊎◌, inl, inr, ⊎_elim, ℕ, zero, suc, ◌+◌, ◌-◌, ◌<◌, ◌≤◌, Bool, true, false, nat_le, if◌then◌else◌, List, [], ◌∷◌, ◌++◌, length, Option, Some, None, is_none, refl, sym, ap, ◌∙◌, subst, arith}
use Rattle.std.specs.List.{slice_get}
use Rattle.std.proofs.lemmas.Bool.{cases_Bool, cases_lt, ne_eqb, eq-eqb, le-leb, leb-true, cond-true, cond-false}
use Rattle.std.proofs.lemmas.Option.{slice_get_within}
use Rattle.crash_site.specs.Files.{File, bytes_of}
use Rattle.crash_site.specs.Left.{IsLoose, Matches}
use Rattle.crash_site.proofs.RangeLemmas.{loose_or_not}
use Rattle.rescue_rules.specs.Given.{last_of_both}
use Rattle.rescue_rules.specs.Stops.{Before, files_before, lost_before, opened_output}
use Rattle.rescue_safety.specs.Saves.{CallsFinished}
use Rattle.rescue_safety.specs.Safe.{Target, HasPlace}
use Rattle.rescue_safety.specs.Holds.{StillHolds}
use Rattle.rescue_safety.specs.Owed.{last_given, HoldsLast}
use Rattle.rescue_safety.specs.OwedFiles.{IsOwedIn}
use Rattle.rescue_safety.proofs.ClaimLemmas.{some_or_none, never_some}
use Rattle.rescue_safety.proofs.FinishedLemmas.{TestsFinished, tests_finished}
use Rattle.rescue_safety.proofs.LastGiven.{last_after}
use Rattle.rescue_safety.proofs.SafeLemmas.{same_byte}

-- ---- a function as pairs

abbrev one_pair : Option ℕ → ℕ → List (ℕ × ℕ)
one_pair None n = []
one_pair (Some b) n = (n, b) ∷ []

other_pair : (o : Option ℕ) (n x : ℕ) → (n ≡ x → ⊥) → last_given (one_pair o n) x ≡ None
other_pair None n x apart = refl
other_pair (Some b) n x apart = cond-false _ (Some b) None (ne_eqb n x apart)

same_pair : (o : Option ℕ) (n : ℕ) → last_given (one_pair o n) n ≡ o
same_pair None n = refl
same_pair (Some b) n = cond-true _ (Some b) None (eq-eqb n n refl)

last_alone : (o : Option ℕ) → last_of_both o None ≡ o
last_alone None = refl
last_alone (Some b) = refl

-- those of the first positions
abbrev pairs_below : (ℕ → Option ℕ) → ℕ → List (ℕ × ℕ)
pairs_below f zero = []
pairs_below f (suc n) = pairs_below f n ++ one_pair (f n) n

none_past : (f : ℕ → Option ℕ) (n x : ℕ) → n ≤ x → last_given (pairs_below f n) x ≡ None
none_past f zero x le = refl
none_past f (suc n) x le =
    last_after (pairs_below f n) (one_pair (f n) n) x
    ∙ ap (λ (o : Option ℕ). last_of_both o (last_given (pairs_below f n) x)) (other_pair (f n) n x (λ is. omega (arith, is, le)))
    ∙ none_past f n x (omega (arith, le))

given_below : (f : ℕ → Option ℕ) (n x : ℕ) → x < n → last_given (pairs_below f n) x ≡ f x
given_below f zero x lt = absurd (let no : ⊥ = omega (arith, lt) in no)
given_below f (suc n) x lt =
    last_after (pairs_below f n) (one_pair (f n) n) x
    ∙ ⊎_elim
    (λ (less : x < n).
    ap (λ (o : Option ℕ). last_of_both o (last_given (pairs_below f n) x)) (other_pair (f n) n x (λ is. omega (arith, is, less)))
    ∙ given_below f n x less)
    (λ (ge : n ≤ x).
    let same : n ≡ x = omega (arith, lt, ge) in
    subst (λ (y : ℕ). last_of_both (last_given (one_pair (f n) n) y) (last_given (pairs_below f n) y) ≡ f y) same
    (ap (λ (o : Option ℕ). last_of_both (last_given (one_pair (f n) n) n) o) (none_past f n n (omega arith))
    ∙ last_alone (last_given (one_pair (f n) n) n) ∙ same_pair (f n) n))
    (cases_lt x n)

-- ---- what is there at first

module _ (t : Target) (image : List ℕ) (lost : List (ℕ × ℕ)) (test : ℕ → Bool) where
  -- the byte at a place, unless that is lost
  abbrev byte_at : (y : ℕ) → IsLoose lost y ⊎ (IsLoose lost y → ⊥) → Option ℕ
  byte_at y (inl gone) = None
  byte_at y (inr there) = slice_get image y

  byte_is : (y b : ℕ) (o : IsLoose lost y ⊎ (IsLoose lost y → ⊥)) → byte_at y o ≡ Some b
      → (IsLoose lost y → ⊥) × (slice_get image y ≡ Some b)
  byte_is y b (inl gone) is = absurd (cc)
  byte_is y b (inr there) is = (there, is)

  is_byte : (y b : ℕ) (o : IsLoose lost y ⊎ (IsLoose lost y → ⊥)) → (IsLoose lost y → ⊥) → slice_get image y ≡ Some b
      → byte_at y o ≡ Some b
  is_byte y b (inl gone) unlost is = absurd (unlost gone)
  is_byte y b (inr there) unlost is = is

  abbrev byte_in : ℕ → Option ℕ
  byte_in y = byte_at y (loose_or_not lost y)

  abbrev placed : ℕ → Option ℕ
  placed x = if nat_le t.from (x + t.to) then byte_in (x + t.to - t.from) else None

  abbrev first : ℕ → Option ℕ
  first x = if test x then placed x else None

  record IsFirst (x b : ℕ) : Type 0 where
    passes : test x ≡ true
    place : ℕ
    at : HasPlace t x place
    unlost : IsLoose lost place → ⊥
    holds : slice_get image place ≡ Some b

  some_placed : (x b : ℕ) → test x ≡ true → placed x ≡ Some b → IsFirst x b
  some_placed x b passes is =
      ⊎_elim
      (λ (on : nat_le t.from (x + t.to) ≡ true).
      let y : ℕ = x + t.to - t.from in
      let there : (IsLoose lost y → ⊥) × (slice_get image y ≡ Some b)
      = byte_is y b (loose_or_not lost y) (sym (cond-true _ (byte_in y) None on) ∙ is) in
      record {
        passes = passes;
        place = y;
        at = omega (arith, leb-true t.from (x + t.to) on);
        unlost = there.0;
        holds = there.1;
      })
      (λ (off : nat_le t.from (x + t.to) ≡ false).
      absurd (never_some b (placed x) (cond-false _ (byte_in (x + t.to - t.from)) None off) is))
      (cases_Bool (nat_le t.from (x + t.to)))

  is_first : (x b : ℕ) → first x ≡ Some b → IsFirst x b
  is_first x b is =
      ⊎_elim
      (λ (on : test x ≡ true). some_placed x b on (sym (cond-true _ (placed x) None on) ∙ is))
      (λ (off : test x ≡ false). absurd (never_some b (first x) (cond-false _ (placed x) None off) is))
      (cases_Bool (test x))

  first_is : (x y b : ℕ) → test x ≡ true → HasPlace t x y → (IsLoose lost y → ⊥) → slice_get image y ≡ Some b
      → first x ≡ Some b
  first_is x y b on at unlost holds =
      let same : y ≡ x + t.to - t.from = omega (arith, at) in
      cond-true _ (placed x) None on
      ∙ cond-true _ (byte_in (x + t.to - t.from)) None (le-leb t.from (x + t.to) (omega (arith, at)))
      ∙ sym (ap (λ (n : ℕ). byte_in n) same) ∙ is_byte y b (loose_or_not lost y) unlost holds

  abbrev pub gave_first : List (ℕ × ℕ)
  gave_first = pairs_below first (length image + t.from)

  gave_is : (x : ℕ) → last_given gave_first x ≡ first x
  gave_is x =
      ⊎_elim (λ (lt : x < length image + t.from). given_below first (length image + t.from) x lt)
      (λ (ge : length image + t.from ≤ x).
      none_past first (length image + t.from) x ge
      ∙ ⊎_elim
      (λ (some : (b : ℕ) × (first x ≡ Some b)).
      let f : IsFirst x some.0 = is_first x some.0 some.1 in
      let no : ⊥ = omega (arith, ge, f.at, slice_get_within image f.place some.0 f.holds) in
      absurd no)
      (λ (none : first x ≡ None). sym none)
      (some_or_none (first x)))
      (cases_lt x (length image + t.from))

  -- finished, but without a byte
  abbrev pub is_bare : ℕ → Bool
  is_bare x = if test x then is_none (first x) else false

  bare_is : (x : ℕ) → test x ≡ true → first x ≡ None → is_bare x ≡ true
  bare_is x on none = cond-true _ (is_none (first x)) false on ∙ ap is_none none

  record IsBare (x : ℕ) : Type 0 where
    passes : test x ≡ true
    none : first x ≡ None

  never_none : (o : Option ℕ) → is_none o ≡ true → o ≡ None
  never_none None is = refl
  never_none (Some b) is = absurd (cc)

  is_bare_so : (x : ℕ) → is_bare x ≡ true → IsBare x
  is_bare_so x is =
      ⊎_elim
      (λ (on : test x ≡ true).
      record { passes = on; none = never_none (first x) (sym (cond-true _ (is_none (first x)) false on) ∙ is) })
      (λ (off : test x ≡ false).
      let no : false ≡ true = sym (cond-false _ (is_none (first x)) false off) ∙ is in absurd (cc))
      (cases_Bool (test x))

-- ---- it is owed, and so it stays

module _ (t : Target) (from : Before) where
  abbrev files : List ℕ → Option File
  files = files_before from

  abbrev lost : List (ℕ × ℕ)
  lost = lost_before from t.outfile

  abbrev image : List ℕ
  image = bytes_of (files t.outfile)

  abbrev old : TestsFinished (files t.mapfile)
  old = tests_finished (files t.mapfile)

  abbrev pub gave_at_first : List (ℕ × ℕ)
  gave_at_first = gave_first t image lost old.test

  abbrev pub bare_at_first : ℕ → Bool
  bare_at_first = is_bare t image lost old.test

  -- over any bytes that are the same where nothing was lost
  owed_one : (bytes : List ℕ) → ((y b : ℕ) → (IsLoose lost y → ⊥) → slice_get image y ≡ Some b → slice_get bytes y ≡ Some b)
      → (x : ℕ) → CallsFinished (files t.mapfile) x
      → (bare_at_first x ≡ true) ⊎ HoldsLast t (last_given gave_at_first) bytes x
  owed_one bytes same x fin =
      ⊎_elim
      (λ (some : (b : ℕ) × (first t image lost old.test x ≡ Some b)).
      let f : IsFirst t image lost old.test x some.0 = is_first t image lost old.test x some.0 some.1 in
      inr (record {
        byte = some.0;
        given = gave_is t image lost old.test x ∙ some.1;
        place = f.place;
        at = f.at;
        holds = same f.place some.0 f.unlost f.holds;
      }))
      (λ (none : first t image lost old.test x ≡ None).
      inl (bare_is t image lost old.test x (old.true_where x fin) none))
      (some_or_none (first t image lost old.test x))

  pub first_owed : IsOwedIn t gave_at_first bare_at_first files
  first_owed = record { each = owed_one image (λ y b unlost is. is) }

  -- over an output that could be there, too
  pub first_over : (was : File) → Matches (opened_output (files t.outfile)) lost was → (x : ℕ)
      → CallsFinished (files t.mapfile) x → (bare_at_first x ≡ true) ⊎ HoldsLast t (last_given gave_at_first) was.bytes x
  first_over was alike =
      owed_one was.bytes
      (λ y b unlost is. same_byte (files t.outfile) lost was y alike unlost (slice_get_within image y b is) ∙ is)

  module _ (found : List ℕ → Option File) (gave : List (ℕ × ℕ)) (x : ℕ) where
    abbrev Holds : Type 0
    Holds = StillHolds t from found x ⊎ HoldsLast t (last_given gave) (bytes_of (found t.outfile)) x

    bare_holds : bare_at_first x ≡ true → Holds
    bare_holds is =
        let bare : IsBare t image lost old.test x = is_bare_so t image lost old.test x is in
        inl (record {
          finished = old.true_only x bare.passes;
          holds = λ y b at was unlost.
              absurd (never_some b (first t image lost old.test x) bare.none
              (first_is t image lost old.test x y b bare.passes at unlost was));
        })

    last_holds : HoldsLast t (last_given (gave_at_first ++ gave)) (bytes_of (found t.outfile)) x → Holds
    last_holds h =
        let both : last_of_both (last_given gave x) (last_given gave_at_first x) ≡ Some h.byte
        = sym (last_after gave_at_first gave x) ∙ h.given in
        ⊎_elim
        (λ (some : (b : ℕ) × (last_given gave x ≡ Some b)).
        inr (record {
          byte = h.byte;
          given = some.1 ∙ sym (ap (λ (o : Option ℕ). last_of_both o (last_given gave_at_first x)) some.1) ∙ both;
          place = h.place;
          at = h.at;
          holds = h.holds;
        }))
        (λ (none : last_given gave x ≡ None).
        let is : first t image lost old.test x ≡ Some h.byte
        = sym (gave_is t image lost old.test x)
        ∙ sym (ap (λ (o : Option ℕ). last_of_both o (last_given gave_at_first x)) none) ∙ both in
        let f : IsFirst t image lost old.test x h.byte = is_first t image lost old.test x h.byte is in
        inl (record {
          finished = old.true_only x f.passes;
          holds = λ y b at was unlost.
              let place : h.place ≡ y = omega (arith, at, h.at) in
              let byte : Some h.byte ≡ Some b = sym is ∙ first_is t image lost old.test x y b f.passes at unlost was in
              subst (λ (n : ℕ). slice_get (bytes_of (found t.outfile)) n ≡ Some b) place (h.holds ∙ byte);
        }))
        (some_or_none (last_given gave x))

    pub at_last : IsOwedIn t (gave_at_first ++ gave) bare_at_first found → CallsFinished (found t.mapfile) x → Holds
    at_last owed fin =
        ⊎_elim (λ (is : bare_at_first x ≡ true). bare_holds is)
        (λ (h : HoldsLast t (last_given (gave_at_first ++ gave)) (bytes_of (found t.outfile)) x). last_holds h)
        (owed.each x fin)
