-- Ranges of a file, and what is left of them without another one.
use Rattle.std.proofs.Common.{◌≡◌, ◌⊎◌, inl, inr, ⊎_elim, ℕ, ◌+◌, ◌≤◌, ◌<◌, max, List, [], ◌∷◌, ◌++◌, refl, arith}
use Rattle.std.specs.List.{flat_map}
use Rattle.std.proofs.lemmas.Bool.{cases_lt}
use Rattle.crash_site.specs.Disk.{without}
use Rattle.crash_site.specs.Left.{IsLoose, loose_end}

pub loose_append : (a b : List (ℕ × ℕ)) (x : ℕ) → IsLoose (a ++ b) x → IsLoose a x ⊎ IsLoose b x
loose_append [] b x h = inr h
loose_append (r ∷ a) b x (inl h) = inl (inl h)
loose_append (r ∷ a) b x (inr h) = ⊎_elim (λ l. inl (inr l)) (λ l. inr l) (loose_append a b x h)

pub loose_left : (a b : List (ℕ × ℕ)) (x : ℕ) → IsLoose a x → IsLoose (a ++ b) x
loose_left [] b x h = absurd h
loose_left (r ∷ a) b x (inl h) = inl h
loose_left (r ∷ a) b x (inr h) = inr (loose_left a b x h)

pub loose_right : (a b : List (ℕ × ℕ)) (x : ℕ) → IsLoose b x → IsLoose (a ++ b) x
loose_right [] b x h = h
loose_right (r ∷ a) b x h = inr (loose_right a b x h)

pub end_append : (a b : List (ℕ × ℕ)) → loose_end (a ++ b) ≡ max (loose_end a) (loose_end b)
end_append [] b = omega arith
end_append (r ∷ a) b = let e = end_append a b in omega (arith, e)

pub loose_within : (a : List (ℕ × ℕ)) (x : ℕ) → IsLoose a x → x < loose_end a
loose_within [] x h = absurd h
loose_within (r ∷ a) x (inl h) = omega (arith, h.0, h.1)
loose_within (r ∷ a) x (inr h) = let e = loose_within a x h in omega (arith, e)

-- a place lies in ranges, or it doesn't
pub loose_or_not : (a : List (ℕ × ℕ)) (x : ℕ) → IsLoose a x ⊎ (IsLoose a x → ⊥)
loose_or_not [] x = inr (λ h. h)
loose_or_not (r ∷ a) x = elim (cases_lt x r.0) [
  | inl low ↦ ⊎_elim (λ l. inl (inr l)) (λ no. inr
      (λ h. ⊎_elim (λ (here : (r.0 ≤ x) × (x < r.0 + r.1)). omega (arith, low, here.0)) no h)) (loose_or_not a x)
  | inr le ↦ elim (cases_lt x (r.0 + r.1)) [
    | inl lt ↦ inl (inl (le, lt))
    | inr high ↦ ⊎_elim (λ l. inl (inr l)) (λ no. inr
        (λ h. ⊎_elim (λ (here : (r.0 ≤ x) × (x < r.0 + r.1)). omega (arith, high, here.1)) no h)) (loose_or_not a x)
  ]
]

-- what is left of ranges without another one lies in them, and outside of it
pub without_in : (pos len : ℕ) (a : List (ℕ × ℕ)) (x : ℕ) → IsLoose (flat_map (without pos len) a) x → IsLoose a x
without_in pos len [] x h = absurd h
without_in pos len (r ∷ a) x (inl h) = inl (omega (arith, h.0), omega (arith, h.1))
without_in pos len (r ∷ a) x (inr (inl h)) = inl (omega (arith, h.0), omega (arith, h.0, h.1))
without_in pos len (r ∷ a) x (inr (inr h)) = inr (without_in pos len a x h)

pub without_out : (pos len : ℕ) (a : List (ℕ × ℕ)) (x : ℕ) → IsLoose (flat_map (without pos len) a) x
    → (x < pos) ⊎ (pos + len ≤ x)
without_out pos len [] x h = absurd h
without_out pos len (r ∷ a) x (inl h) = inl (omega (arith, h.0, h.1))
without_out pos len (r ∷ a) x (inr (inl h)) = inr (omega (arith, h.0, h.1))
without_out pos len (r ∷ a) x (inr (inr h)) = without_out pos len a x h

pub without_rest : (pos len : ℕ) (a : List (ℕ × ℕ)) (x : ℕ) → IsLoose a x → (x < pos) ⊎ (pos + len ≤ x)
    → IsLoose (flat_map (without pos len) a) x
without_rest pos len [] x h out = absurd h
without_rest pos len (r ∷ a) x (inl h) (inl low) = inl (h.0, omega (arith, h.0, h.1, low))
without_rest pos len (r ∷ a) x (inl h) (inr high) =
    inr (inl (omega (arith, h.0, h.1, high), omega (arith, h.0, h.1, high)))
without_rest pos len (r ∷ a) x (inr h) out = inr (inr (without_rest pos len a x h out))

pub without_end : (pos len : ℕ) (a : List (ℕ × ℕ)) → loose_end (flat_map (without pos len) a) ≡ loose_end a
without_end pos len [] = refl
without_end pos len (r ∷ a) = let e = without_end pos len a in omega (arith, e)
