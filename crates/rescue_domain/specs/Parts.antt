-- How a domain is kept: as intervals of positions. For contracts, laws and proofs: no promise uses it.
use Rattle.std.specs.Prelude.{◌≡◌, ℕ, ◌+◌, ◌<◌, ◌≤◌, Bool, false, ◌&&◌, ◌||◌, nat_lt, nat_le, List, [], ◌∷◌, Some, slice_get}
use Rattle.block_list.specs.declared.block.Range.{Range}

-- one of the intervals has x
abbrev pub covers : List Range → ℕ → Bool
covers [] x = false
covers (part ∷ parts) x = (nat_le part.from x && nat_lt x part.to) || covers parts x

-- the intervals ascend from low on, none is empty, and between each two lies a gap
abbrev pub AreParts : ℕ → List Range → Type 0
AreParts low [] = Unit {0}
AreParts low (part ∷ parts) = (low ≤ part.from) × (part.from < part.to) × AreParts (part.to + 1) parts

-- this number of the intervals, counted from the first, end at or before x, and no others do
pub record EndBy (parts : List Range) (n x : ℕ) : Type 0 where
  pub ended : (i : ℕ) (part : Range) → i < n → slice_get parts i ≡ Some part → part.to ≤ x
  pub others : (i : ℕ) (part : Range) → n ≤ i → slice_get parts i ≡ Some part → x < part.to
