-- Bad ranges stay separate with one more after them.
use Rattle.std.proofs.Common.{◌≡◌, ◌≤◌, ◌<◌, ℕ, List, [], ◌∷◌, ◌++◌, refl, arith}
use Rattle.faulty_source.specs.declared.bad_range.BadRange.{BadRange}
use Rattle.faulty_source.specs.Memory.{AreSeparate}
use Rattle.scene_text.specs.BadRanges.{end_of}

AreApart-append : (low : ℕ) (xs : List BadRange) (r : BadRange) → AreSeparate low xs
    → end_of low xs ≤ r.from → r.from < r.to → AreSeparate low (xs ++ r ∷ [])
AreApart-append low [] r apart past some = (past, some, tt)
AreApart-append low (x ∷ xs) r (here, filled, apart) past some =
    (here, filled, AreApart-append x.to xs r apart past some)

end_of-append : (low : ℕ) (xs : List BadRange) (r : BadRange) → end_of low (xs ++ r ∷ []) ≡ r.to
end_of-append low [] r = refl
end_of-append low (x ∷ xs) r = end_of-append x.to xs r

-- one more range after the others
pub AreApart-push : (xs ys : List BadRange) (r : BadRange) (end : ℕ) → ys ≡ xs ++ r ∷ [] → AreSeparate 0 xs
    → end_of 0 xs ≡ end → end ≤ r.from → r.from < r.to → AreSeparate 0 ys × (end_of 0 ys ≡ r.to)
AreApart-push xs ys r end grown apart last past some =
    let below : end_of 0 xs ≤ r.from = omega arith in
    rw grown (AreApart-append 0 xs r apart below some, end_of-append 0 xs r)
