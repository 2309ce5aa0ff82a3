-- What is known of a count.
use Rattle.std.proofs.Common.{◌≡◌, ℕ, ◌-◌, ◌^◌, ◌<◌, arith}
use Rattle.fault_count.specs.Counts.{raised}

-- a count that stands hasn't risen
pub not_risen : (n now : ℕ) → n < 2 ^ 64 - 1 → now ≡ n → now ≡ raised n → ⊥
not_risen n now below same rose = omega (arith, below, same, rose)
