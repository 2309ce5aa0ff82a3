-- What a search in a page finds. For contracts and proofs: no promise uses it.
use Rattle.std.specs.Prelude.{◌≡◌, ℕ, ◌+◌, ◌<◌, ◌≤◌, List, length, slice_get, slice_index_or, Some}
use Rattle.block_list.specs.declared.block.Block.{Block}
use Rattle.block_list.specs.declared.status.Status.{Status}

-- the first n elements begin before a place, and the others don't
pub record IsSearched {X : Type 0} (begins : X → ℕ) (xs : List X) (at n : ℕ) : Type 0 where
  pub within : n ≤ length xs
  pub before : (i : ℕ) (d : X) → i < n → begins (slice_index_or xs i d) < at
  pub past : (i : ℕ) (d : X) → n ≤ i → i < length xs → at ≤ begins (slice_index_or xs i d)

-- no block from an index up to another has a status
pub record HasNoneOf (bs : List Block) (s : Status) (from to : ℕ) : Type 0 where
  pub none : (i : ℕ) (d : Block) → from ≤ i → i < to → (slice_index_or bs i d).status ≡ s → ⊥

-- no block is empty
pub record AreNonempty (bs : List Block) : Type 0 where
  pub filled : (i : ℕ) (d : Block) → i < length bs → 0 < (slice_index_or bs i d).size

-- the block at an index has a status
pub record HasAt (bs : List Block) (s : Status) (i : ℕ) : Type 0 where
  pub index : i < length bs
  pub has : (d : Block) → (slice_index_or bs i d).status ≡ s

-- the first block from an index on that has a status
pub record IsFirstBlock (bs : List Block) (s : Status) (from : ℕ) (b : Block) : Type 0 where
  pub index : ℕ
  pub after : from ≤ index
  pub read : slice_get bs index ≡ Some b
  pub others : HasNoneOf bs s from index
  pub has : b.status ≡ s

-- the last of the first blocks, up to an index, that has a status
pub record IsLastBlock (bs : List Block) (s : Status) (to : ℕ) (b : Block) : Type 0 where
  pub index : ℕ
  pub below : index < to
  pub read : slice_get bs index ≡ Some b
  pub others : HasNoneOf bs s (index + 1) to
  pub has : b.status ≡ s
