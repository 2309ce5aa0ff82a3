-- Blocks that follow one another, as their ends and statuses. For contracts and proofs: no promise uses it.
use Rattle.std.specs.Prelude.{◌≡◌, ℕ, ◌-◌, List, [], ◌∷◌, length, min, vec_capacity}
use Rattle.block_list.specs.declared.block.Block.{Block}
use Rattle.block_list.specs.declared.status.Status.{Status}
use Rattle.plain_blocks.specs.declared.block_row.BlockRow.TheInside.{Inside}

-- what a row stands for: its blocks, and how many more it has room for
pub record Lined : Type 0 where
  pub items : List Block
  pub spare : ℕ

-- blocks from a position on, each where the one before ends, with some ends and statuses
abbrev pub rows : ℕ → List ℕ → List Status → List Block
rows low [] ss = []
rows low (e ∷ es) [] = []
rows low (e ∷ es) (s ∷ ss) = record { pos = low; size = e - low; status = s } ∷ rows e es ss

-- what a row with these ends and statuses stands for
abbrev pub row_of : Inside → Lined
row_of r = record {
  items = rows 0 r.ends.items r.statuses.items;
  spare = min (vec_capacity r.ends) (vec_capacity r.statuses) - length r.ends.items;
}

-- a row has a status for each end
pub record IsRow (r : Inside) : Type 0 where
  pub alike : length r.statuses.items ≡ length r.ends.items
