-- Sizes and numbers of cells and rows.
use Rattle.std.proofs.Common.{◌≡◌, ℕ, zero, suc, ◌+◌, ◌*◌, ◌<◌, ◌≤◌, max, ap, arith}
use Rattle.std.specs.Int.{div_ceil}
use Rattle.std.proofs.lemmas.Grind.{div_ceil_times}
use Rattle.std.proofs.Math.Nat.{le-mul_of_pos_right, mul-le-mul_right, one-le-mul}

-- a whole part begins before the end, if it is one of those into which a length is divided
pub begins_before : (a b k : ℕ) → 0 < b → k < div_ceil a b → k * b < a
begins_before a b k some within =
    let t = div_ceil_times a b some in
    let m : suc k * b ≤ div_ceil a b * b = mul-le-mul_right b (omega (arith, within)) in
    let e : suc k * b ≡ b + k * b = omega arith in
    omega (arith, t.1, m, e)

-- so many whole sectors aren't much longer than what they hold
pub cell_short : (span s c d : ℕ) → 0 < s → 0 < c → d ≡ div_ceil span (s * c) → s * max 1 d ≤ span + s
cell_short span s c zero some cells is = omega arith
cell_short span s c (suc d) some cells is =
    let p : 0 < s * c = one-le-mul some cells in
    let b : d * (s * c) < span = begins_before span (s * c) d p (omega (arith, is)) in
    let m : s * d ≤ s * d * c = le-mul_of_pos_right (s * d) cells in
    let e : s * d * c ≡ d * (s * c) = omega arith in
    let most : max 1 (suc d) ≡ suc d = omega arith in
    let all : s * max 1 (suc d) ≡ s * suc d = ap (λ (k : ℕ). s * k) most in
    let h : s * suc d ≡ s + s * d = omega arith in
    omega (arith, b, m, e, all, h)
