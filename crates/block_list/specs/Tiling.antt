-- How blocks tile a map: without gaps, and merged if neighbors have the same status.
-- For contracts and proofs: no promise uses it.
use Rattle.std.specs.Prelude.{ℕ, ◌≡◌, ◌+◌, ◌<◌, List, [], ◌∷◌, slice_get, Some}
use Rattle.block_list.specs.declared.block.Block.{Block}

-- the blocks begin at low, each where the one before ends, up to end; none is empty
abbrev pub AreTiles : ℕ → List Block → ℕ → Type 0
AreTiles low [] end = end ≡ low
AreTiles low (b ∷ bs) end = (b.pos ≡ low) × (0 < b.size) × AreTiles (low + b.size) bs end

-- no block has the status of the one before it
pub record IsMerged (bs : List Block) : Type 0 where
  pub differ : (k : ℕ) (a b : Block) → slice_get bs k ≡ Some a → slice_get bs (k + 1) ≡ Some b → a.status ≡ b.status → ⊥
