-- Pages that are next to each other, and the blocks that come in the place of theirs.
-- For contracts and proofs: no promise uses it.
use Rattle.std.specs.Prelude.{◌≡◌, ◌+◌, ◌-◌, ◌<◌, ◌≤◌, List, ◌++◌, length, take, drop, slice_index_or}
use Rattle.block_list.specs.declared.block.Block.{Block}
use Rattle.block_pages.specs.declared.page_entry.PageEntry.{PageEntry}
use Rattle.paged_blocks.specs.declared.marks.edit.Edit.{Edit}
use Rattle.paged_blocks.specs.declared.marks.touched_pages.Region.{Region}
use Rattle.paged_blocks.specs.Paging.{flat}

-- the blocks of all pages, with others in the place of those of the pages from one entry up to another
abbrev pub refilled : List (List Block) → List PageEntry → Region → List Block
refilled pages es r = flat pages (take r.first es) ++ r.blocks ++ flat pages (drop r.past es)

-- a region is of pages that are there, of at least one if there is any, and it has a block
pub record IsRegion (es : List PageEntry) (r : Region) : Type 0 where
  pub order : r.first ≤ r.past
  pub within : r.past ≤ length es
  pub taken : 0 < length es → r.first < r.past
  pub some : 0 < length r.blocks

-- a region with fewer than 32 blocks is of all pages
pub record IsOfAllPages (es : List PageEntry) (r : Region) : Type 0 where
  pub first : length r.blocks < 32 → r.first ≡ 0
  pub past : length r.blocks < 32 → r.past ≡ length es

-- a region is of no page, and has one block
pub record IsOneBlock (r : Region) : Type 0 where
  pub first : r.first ≡ 0
  pub past : r.past ≡ 0
  pub one : length r.blocks ≡ 1

-- an edit touches one page, which then has 32 to 64 blocks, or fewer if it is the only one
pub record StaysInPage (es : List PageEntry) (e : Edit) : Type 0 where
  pub page : e.first ≡ e.last
  pub fits : (d : PageEntry) → (slice_index_or es e.first d).len + length e.new ≤ 64 + (e.to - e.from)
  pub half : 1 < length es → (d : PageEntry) → 32 + (e.to - e.from) ≤ (slice_index_or es e.first d).len + length e.new

-- an edit touches two pages beside each other, of which each keeps its number of blocks
pub record StaysInTwoPages (es : List PageEntry) (e : Edit) : Type 0 where
  pub next : e.last ≡ e.first + 1
  pub front : (d : PageEntry) → e.from < (slice_index_or es e.first d).len
  pub back : 0 < e.to
  pub alike : (d : PageEntry) → e.from + length e.new ≡ (slice_index_or es e.first d).len + e.to
