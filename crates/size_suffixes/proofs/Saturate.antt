-- A sum or a product that stops at the largest number of a type.
use Rattle.std.proofs.Common.{◌≡◌, ℕ, ◌+◌, ◌*◌, ◌<◌, min, arith}

-- one more digit of a number that stops at `most`
pub saturates_more : (most v b d w p : ℕ) → 0 < b → w ≡ min v most → p ≡ min (w * b) most → min (p + d) most ≡ min (v * b + d) most
saturates_more most v b d w p positive e f = grind arith
