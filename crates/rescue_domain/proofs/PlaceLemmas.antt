-- The last position that is asked for, if it ends too far on in the output.
use Rattle.std.proofs.Common.{◌≡◌, ℕ, ◌+◌, ◌-◌, ◌<◌, ◌≤◌, ◌^◌, ◌&&◌, true, false, nat_lt, Option, arith, Bool}
use Rattle.std.proofs.lemmas.Bool.{ltb-false}
use Rattle.std.proofs.lemmas.Bool.Decides.{nat_tests}
use Rattle.rescue_domain.specs.Domain.{is_below, whole_domain}
use Rattle.rescue_domain.specs.Places.{IsAnyBeyond, AreAllPlaced}

pub beyond_at : (pos : ℕ) (size : Option ℕ) (end last to : ℕ)
    → ((x : ℕ) → nat_lt x last ≡ (is_below pos size x && nat_lt x end)) → pos < last
    → nat_lt (last - pos + to) (2 ^ 63) ≡ false → IsAnyBeyond (whole_domain pos size end) pos to
beyond_at pos size end last to below some is =
    let far : 2 ^ 63 ≤ last - pos + to = ltb-false (last - pos + to) (2 ^ 63) is in
    let asked : whole_domain pos size end (last - 1) ≡ true = grind (arith, nat_tests, below (last - 1)) in
    (last - 1, asked, omega arith)

-- the whole domain begins at the input position
pub whole_from : (pos : ℕ) (size : Option ℕ) (end x : ℕ) → whole_domain pos size end x ≡ true → pos ≤ x
whole_from pos size end x inside = grind (arith, nat_tests, inside)

-- if each position has a place, none ends too far on
pub never_beyond : (domain : ℕ → Bool) (from to : ℕ) → AreAllPlaced domain from to → IsAnyBeyond domain from to → ⊥
never_beyond domain from to placed (x, is, far) = let near = placed x is in omega (arith, near, far)
