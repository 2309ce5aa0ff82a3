-- A map in pages: a list of entries, each with the number of a page. For contracts and proofs: no promise uses it.
use Rattle.std.specs.Prelude.{◌≡◌, ℕ, ◌+◌, ◌<◌, ◌≤◌, List, [], ◌∷◌, ◌++◌, All, length, slice_index_or, slice_set, take, count_by, nat_eq, nat_lt}
use Rattle.std.specs.List.{flat_map}
use Rattle.block_list.specs.declared.block.Block.{Block}
use Rattle.block_list.specs.declared.status.Status.{Status}
use Rattle.block_list.specs.Status.{same}
use Rattle.block_list.specs.Stretches.{covered}
use Rattle.block_list.specs.Tiling.{IsMerged}
use Rattle.block_list.specs.Edits.{IsTiled, IsPlace}
use Rattle.block_pages.specs.declared.page_entry.PageEntry.{PageEntry}
use Rattle.block_pages.specs.Tally.{tallied}
use Rattle.block_pages.specs.PageEntries.{IsEntryOf}

-- the blocks of the page that an entry names
abbrev pub blocks_of : List (List Block) → PageEntry → List Block
blocks_of pages e = slice_index_or pages e.page []

-- all blocks, page after page in the order of the entries
abbrev pub flat : List (List Block) → List PageEntry → List Block
flat pages entries = flat_map (blocks_of pages) entries

-- how many blocks the pages of the first i entries have
abbrev pub before : List (List Block) → List PageEntry → ℕ → ℕ
before pages entries i = length (flat pages (take i entries))

-- an entry says what its page holds: at least one block, and at most 64
pub record IsEntry (pages : List (List Block)) (e : PageEntry) : Type 0 where
  pub page : e.page < length pages
  pub some : 0 < length (blocks_of pages e)
  pub len : e.len ≡ length (blocks_of pages e)
  pub fits : length (blocks_of pages e) ≤ 64
  pub begins : (d : Block) → (slice_index_or (blocks_of pages e) 0 d).pos ≡ e.pos
  pub tally : (s : Status) → tallied e.tally s ≡ count_by (λ z. same z s) (flat_map covered (blocks_of pages e))

-- the blocks of the pages together are a map's, and each entry says what its page holds
pub record IsPaging (pages : List (List Block)) (entries : List PageEntry) : Type 0 where
  pub tiled : IsTiled (flat pages entries)
  pub merged : IsMerged (flat pages entries)
  pub each : (i : ℕ) (d : PageEntry) → i < length entries → IsEntry pages (slice_index_or entries i d)

-- the last block that begins before a position: it is number j, counted from 1, in the page of entry k, and number
-- `before pages entries k + j` among all blocks, counted alike
pub record IsHeld (pages : List (List Block)) (entries : List PageEntry) (at k j : ℕ) : Type 0 where
  pub entry : k < length entries
  pub block : 0 < j
  pub within : (d : PageEntry) → j ≤ length (blocks_of pages (slice_index_or entries k d))
  pub place : IsPlace (flat pages entries) at (before pages entries k + j)

-- a page was put after the others, and an entry that says what it holds
pub record IsAdded (pages : List (List Block)) (entries : List PageEntry) (page : List Block)
    (new : List (List Block)) (named : List PageEntry) : Type 0 where
  pub grown : new ≡ pages ++ page ∷ []
  pub known : (e : PageEntry) × IsEntryOf page (length pages) e × (named ≡ entries ++ e ∷ [])

-- the page of the entry with an index was written anew, and the entry says what it holds now
pub record IsRewritten (pages : List (List Block)) (entries : List PageEntry) (k : ℕ) (page : List Block)
    (new : List (List Block)) (named : List PageEntry) : Type 0 where
  pub entry : PageEntry
  pub number : (d : PageEntry) → entry.page ≡ (slice_index_or entries k d).page
  pub says : IsEntryOf page entry.page entry
  pub written : new ≡ slice_set pages entry.page page
  pub filed : named ≡ slice_set entries k entry

-- how many pages have fewer than 32 blocks
abbrev pub short_pages : List PageEntry → ℕ
short_pages es = count_by (λ (e : PageEntry). nat_lt e.len 32) es

-- every page has at least 32 blocks, unless it is the only one
pub record AreHalfFull (entries : List PageEntry) : Type 0 where
  pub half : 1 < length entries → short_pages entries ≡ 0

-- how many entries name the page with a number
abbrev pub naming : ℕ → List PageEntry → ℕ
naming n es = count_by (λ (e : PageEntry). nat_eq e.page n) es

-- how often a number is among the free ones
abbrev pub times_free : ℕ → List ℕ → ℕ
times_free n free = count_by (λ (m : ℕ). nat_eq m n) free

-- each page is named by one entry, or it is free
pub record AreNumbered (pages : List (List Block)) (entries : List PageEntry) (free : List ℕ) : Type 0 where
  pub once : (n : ℕ) → naming n entries + times_free n free ≤ 1
  pub within : (n : ℕ) → length pages ≤ n → naming n entries + times_free n free ≡ 0
  pub all : length entries + length free ≡ length pages

-- each entry says what its page holds, and each page is named by one, or it is free
pub record AreFiled (pages : List (List Block)) (entries : List PageEntry) (free : List ℕ) : Type 0 where
  pub each : All (IsEntry pages) entries
  pub numbered : AreNumbered pages entries free

-- how a map is kept in pages
pub record IsKeptInPages (pages : List (List Block)) (entries : List PageEntry) (free : List ℕ) : Type 0 where
  pub paging : IsPaging pages entries
  pub half : AreHalfFull entries
  pub numbered : AreNumbered pages entries free
