-- The bad ranges after a read that failed, as a loop over them has come to them.
use Rattle.std.proofs.Common.{◌≡◌, ℕ, ◌+◌, ◌<◌, List, ◌++◌, length, take, drop, get_or, set, if◌then◌else◌, arith}
use Rattle.std.proofs.lemmas.List.{get_or_default}
use Rattle.std.proofs.lemmas.List.Edits.{map_over_more}
use Rattle.std.proofs.Common.{ap, ◌∙◌}
use Rattle.faulty_source.specs.declared.bad_range.BadRange.{BadRange}
use Rattle.faulty_source.specs.Memory.{is_bad_at, one_less, met}

-- a range after a read that failed at x
abbrev pub met_one : ℕ → BadRange → BadRange
met_one x r = if is_bad_at x r then record r { attempts = one_less r.attempts } else r

-- a loop's step: the ranges up to i were met, and now the one at i
pub met_more : (xs ys : List BadRange) (i x : ℕ) (new d : BadRange) → i < length xs → length ys ≡ length xs
    → ys ≡ met (take i xs) x ++ drop i xs → new ≡ met_one x (get_or ys i d)
    → set ys i new ≡ met (take (i + 1) xs) x ++ drop (i + 1) xs
met_more xs ys i x new d within same is made =
    ap (set ys i) made ∙ map_over_more (met_one x) xs ys i (get_or ys i d) within is
    (get_or_default ys i d (get_or ys i d) (let lt : i < length ys = omega arith in lt))
