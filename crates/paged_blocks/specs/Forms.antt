-- The two forms of a map: a plain list of a few blocks, or pages. For contracts and proofs: no promise uses it.
use Rattle.std.specs.Prelude.{◌≡◌, ◌-◌, ◌≤◌, length, min}
use Rattle.block_list.specs.Tiled.{Tiled}
use Rattle.block_list.specs.Stretches.{stretches}
use Rattle.paged_blocks.specs.declared.paged_tiles.Form.{Form}
use Rattle.paged_blocks.specs.declared.paged_tiles.Form.TheVariants.{Few, Many}

-- what a form stands for: a plain list takes no more blocks than are few
abbrev pub shown : Form → Tiled
shown (Few t) = record { statuses = t.statuses; spare = min t.spare (120 - length (stretches t.statuses)) }
shown (Many t) = t

-- a plain list has few blocks
pub record IsFormed (f : Form) : Type 0 where
  pub few : (t : Tiled) → f ≡ Few t → length (stretches t.statuses) ≤ 120
