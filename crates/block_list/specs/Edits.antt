-- What an edit of a block list changes: a cut, a join with a neighbor, and a boundary that moves.
-- For contracts and proofs: no promise uses it.
use Rattle.std.specs.Prelude.{◌≡◌, ℕ, ◌+◌, ◌-◌, ◌<◌, ◌≤◌, ◌^◌, ◌++◌, List, [], ◌∷◌, length, take, drop, slice_get, slice_set, Some}
use Rattle.std.specs.List.{flat_map, insert}
use Rattle.block_list.specs.declared.block.Block.{Block}
use Rattle.block_list.specs.Map.{marked}
use Rattle.block_list.specs.Stretches.{covered}
use Rattle.block_list.specs.Tiling.{AreTiles, IsMerged}

-- the blocks tile their positions from 0 on, fewer than 2^63
pub record IsTiled (bs : List Block) : Type 0 where
  pub tiled : AreTiles 0 bs (length (flat_map covered bs))
  pub short : length (flat_map covered bs) < 2 ^ 63

-- where the block with an index begins: past the positions of those before it
abbrev pub start_of : List Block → ℕ → ℕ
start_of bs i = length (flat_map covered (take i bs))

-- the first i blocks begin before a position, and the others don't
pub record IsPlace (bs : List Block) (at i : ℕ) : Type 0 where
  pub index : i ≤ length bs
  pub before : 0 < i → start_of bs (i - 1) < at
  pub reaches : at ≤ start_of bs i

-- the part of a block before a position inside it
abbrev pub front_of : Block → ℕ → Block
front_of b at = record { pos = b.pos; size = at - b.pos; status = b.status }

-- the list with two blocks in the place of the one at i
abbrev pub cut_at : List Block → ℕ → Block → Block → List Block
cut_at bs i front back = insert (slice_set bs i front) (i + 1) back

-- New are the same statuses in blocks of which the one at i begins at a position, or the position is the end. The
-- blocks before the position are as they were, and the blocks on either side of it are as merged as they were.
pub record IsBlockCut (bs new : List Block) (at i : ℕ) : Type 0 where
  pub tiled : IsTiled new
  pub same : flat_map covered new ≡ flat_map covered bs
  pub index : i ≤ length new
  pub place : start_of new i ≡ at
  pub kept : (n : ℕ) → start_of bs n < at → take n new ≡ take n bs
  pub front : IsMerged bs → IsMerged (take i new)
  pub back : (n : ℕ) → start_of bs n ≤ at → IsMerged (drop n bs) → IsMerged (drop i new)

-- wide is the block, or the block and the one before it; it comes after the first low blocks in place of
-- those up to i
pub record IsJoinedBefore (bs : List Block) (i : ℕ) (block : Block) (low : ℕ) (wide : Block) : Type 0 where
  pub index : low ≤ i
  pub place : start_of bs low ≡ wide.pos
  pub ends : wide.pos + wide.size ≡ block.pos + block.size
  pub sized : block.size ≤ wide.size
  pub status : wide.status ≡ block.status
  pub same : flat_map covered (take low bs) ++ covered wide ≡ flat_map covered (take i bs) ++ covered block
  pub merged : IsMerged (take i bs) → IsMerged (take low bs ++ wide ∷ [])

-- wide is the block, or the block and the one after it; it comes before the blocks from high on in place of
-- those from j on
pub record IsJoinedAfter (bs : List Block) (j : ℕ) (block : Block) (high : ℕ) (wide : Block) : Type 0 where
  pub index : j ≤ high
  pub within : high ≤ length bs
  pub place : start_of bs high ≡ wide.pos + wide.size
  pub begins : wide.pos ≡ block.pos
  pub sized : block.size ≤ wide.size
  pub status : wide.status ≡ block.status
  pub same : covered wide ++ flat_map covered (drop high bs) ≡ covered block ++ flat_map covered (drop j bs)
  pub merged : IsMerged (drop j bs) → IsMerged (wide ∷ drop high bs)

-- New are the blocks with the boundary before the one at i at another position. If the boundary rose, what it passed
-- has the status of the block before it, and if it fell, that of the block after it.
pub record IsShifted (bs new : List Block) (i at : ℕ) : Type 0 where
  pub tiled : IsTiled new
  pub merged : IsMerged bs → IsMerged new
  pub rose : (n : ℕ) (b : Block) → 0 < n → slice_get bs (i - 1) ≡ Some b → start_of bs i + n ≡ at
      → flat_map covered new ≡ marked (flat_map covered bs) (start_of bs i) n b.status
  pub fell : (n : ℕ) (b : Block) → 0 < n → slice_get bs i ≡ Some b → at + n ≡ start_of bs i
      → flat_map covered new ≡ marked (flat_map covered bs) at n b.status
