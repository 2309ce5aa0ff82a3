-- What comes in the place of the blocks that a mark covers, and of the parts of blocks on its sides.
-- For contracts and proofs: no promise uses it.
use Rattle.std.specs.Prelude.{◌≡◌, ℕ, ◌+◌, ◌<◌, ◌≤◌, ◌^◌, List, [], ◌∷◌, ◌++◌, Option, None, length, take, drop, max, min, option_to_list, slice_index_or}
use Rattle.std.specs.List.{flat_map}
use Rattle.block_list.specs.declared.block.Block.{Block}
use Rattle.block_list.specs.declared.status.Status.{Status}
use Rattle.block_list.specs.Stretches.{covered}
use Rattle.block_list.specs.Tiling.{AreTiles, IsMerged}
use Rattle.block_list.specs.Edits.{IsTiled, start_of}
use Rattle.block_pages.specs.declared.page_entry.PageEntry.{PageEntry}
use Rattle.block_pages.specs.Splice.{spliced}
use Rattle.paged_blocks.specs.declared.marks.edit.Edit.{Edit}
use Rattle.paged_blocks.specs.Paging.{blocks_of, flat, before}

-- wide is a block, with what comes before it if that has its status; rest is what is left of the one that it begins in.
-- They come after the first low blocks, in place of all up to the block's end
pub record IsJoinedFront (bs : List Block) (block : Block) (low : ℕ) (rest : Option Block) (wide : Block) : Type 0 where
  pub within : low ≤ length bs
  pub early : start_of bs low ≤ block.pos
  pub inside : start_of bs low < length (flat_map covered bs)
  pub none : block.pos ≡ 0 → rest ≡ None
  pub ends : wide.pos + wide.size ≡ block.pos + block.size
  pub sized : block.size ≤ wide.size
  pub status : wide.status ≡ block.status
  pub tiled : AreTiles 0 (take low bs ++ option_to_list rest) wide.pos
  pub merged : IsMerged (take low bs ++ option_to_list rest ++ wide ∷ [])
  pub same : flat_map covered (take low bs ++ option_to_list rest ++ wide ∷ [])
      ≡ take block.pos (flat_map covered bs) ++ covered block

-- whole is a block, with what comes after it if that has its status; rest is what is left of the one that it ends in.
-- They come before the blocks from high on, in place of all from the block's begin on
pub record IsJoinedBack (bs : List Block) (block : Block) (high : ℕ) (rest : Option Block) (whole : Block)
    : Type 0 where
  pub within : high ≤ length bs
  pub reaches : min (block.pos + block.size) (length (flat_map covered bs)) ≤ start_of bs high
  pub none : length (flat_map covered bs) ≤ block.pos + block.size → rest ≡ None
  pub begins : whole.pos ≡ block.pos
  pub status : whole.status ≡ block.status
  pub tiled : AreTiles whole.pos (whole ∷ option_to_list rest ++ drop high bs)
      (max (block.pos + block.size) (length (flat_map covered bs)))
  pub merged : IsMerged (whole ∷ option_to_list rest ++ drop high bs)
  pub same : flat_map covered (whole ∷ option_to_list rest ++ drop high bs)
      ≡ covered block ++ drop (block.pos + block.size) (flat_map covered bs)

-- the positions of a block may be marked: there is one, and the first is the map's end or before it
pub record IsMarkable (end : ℕ) (block : Block) : Type 0 where
  pub some : 0 < block.size
  pub begins : block.pos ≤ end
  pub short : block.pos + block.size < 2 ^ 63

-- the index among all blocks from which on an edit takes out blocks
abbrev pub edit_from : List (List Block) → List PageEntry → Edit → ℕ
edit_from pages es e = before pages es e.first + e.from

-- the index among all blocks before which an edit stops taking out blocks
abbrev pub edit_to : List (List Block) → List PageEntry → Edit → ℕ
edit_to pages es e = before pages es e.last + e.to

-- an edit puts one to three blocks in the place of others, at most two more than it takes out
pub record IsEdit (pages : List (List Block)) (es : List PageEntry) (e : Edit) : Type 0 where
  pub order : e.first ≤ e.last
  pub last : e.last < length es
  pub from : (d : PageEntry) → e.from ≤ length (blocks_of pages (slice_index_or es e.first d))
  pub to : (d : PageEntry) → e.to ≤ length (blocks_of pages (slice_index_or es e.last d))
  pub rising : edit_from pages es e < edit_to pages es e
  pub some : 0 < length e.new
  pub few : length e.new ≤ 3
  pub gain : edit_from pages es e + length e.new ≤ edit_to pages es e + 2

-- the blocks after an edit
abbrev pub edited : List (List Block) → List PageEntry → Edit → List Block
edited pages es e = spliced (flat pages es) (edit_from pages es e) (edit_to pages es e) e.new

-- blocks are a map's, with these statuses
pub record AreOfMap (bs : List Block) (map : List Status) : Type 0 where
  pub tiled : IsTiled bs
  pub merged : IsMerged bs
  pub statuses : flat_map covered bs ≡ map

-- blocks are a map's: each begins where the one before ends, and has another status
pub record AreMapBlocks (bs : List Block) : Type 0 where
  pub tiled : IsTiled bs
  pub merged : IsMerged bs
