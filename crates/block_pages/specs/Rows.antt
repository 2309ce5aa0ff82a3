-- The blocks of a page: where each begins and its status, and the end of the last.
-- For contracts and proofs: no promise uses it.
use Rattle.std.specs.Prelude.{◌≡◌, ℕ, ◌-◌, ◌<◌, ◌≤◌, ◌^◌, List, [], ◌∷◌, length, map}
use Rattle.block_list.specs.declared.block.Block.{Block}
use Rattle.block_list.specs.declared.status.Status.{Status}
use Rattle.block_list.specs.Tiling.{AreTiles}
use Rattle.block_pages.specs.declared.page.Page.TheInside.{Inside}
use Rattle.block_pages.specs.declared.page.KeptStatus.{KeptStatus}

-- the first of some positions, or an end if there is none
abbrev pub first_or : List ℕ → ℕ → ℕ
first_or [] end = end
first_or (p ∷ ps) end = p

-- blocks that begin at some positions, each up to the next one, and the last up to an end
abbrev pub rows : List ℕ → List Status → ℕ → List Block
rows [] ss end = []
rows (p ∷ ps) [] end = []
rows (p ∷ ps) (s ∷ ss) end = record { pos = p; size = first_or ps end - p; status = s } ∷ rows ps ss end

-- the statuses of the blocks of a page, by what it keeps of them
abbrev pub statuses_of : List KeptStatus → List Status
statuses_of ks = map (λ (k : KeptStatus). k.status) ks

-- the blocks of a page
abbrev pub rows_of : Inside → List Block
rows_of p = rows p.starts.items (statuses_of p.statuses.items) p.end

-- a page has at most 64 begins, and a status for each
pub record IsPage (p : Inside) : Type 0 where
  pub fits : length p.starts.items ≤ 64
  pub alike : length p.statuses.items ≡ length p.starts.items

-- blocks that aren't empty, of which each begins where the one before ends
pub record AreRow (bs : List Block) : Type 0 where
  pub low : ℕ
  pub end : ℕ
  pub tiled : AreTiles low bs end
  pub short : end < 2 ^ 63
