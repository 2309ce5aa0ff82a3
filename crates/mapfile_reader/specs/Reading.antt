-- How a text is read: numbers cut at a limit, and what fills the places before a block.
-- For contracts and proofs: no promise uses it.
use Rattle.std.specs.Prelude.{ℕ, ◌-◌, ◌^◌, min, Bool, true, false, List, [], replicate}
use Rattle.block_list.specs.declared.status.Status.{Status}
use Rattle.block_list.specs.declared.status.Status.TheVariants.{NonTried}
use Rattle.block_list.specs.declared.block.Block.{Block}
use Rattle.mapfile_text.specs.declared.state.Current.{Current}
use Rattle.mapfile_text.specs.declared.state.MapState.{MapState}
use Rattle.mapfile_text.specs.declared.read.Mode.{Mode}
use Rattle.mapfile_text.specs.declared.read.Mode.TheVariants.{Tight, Loose}

-- a number, or 2^63 if it is larger
abbrev pub capped : ℕ → ℕ
capped n = min n (2 ^ 63)

-- position, current status and pass of a state, the numbers capped
abbrev pub capped_state : MapState → ℕ × Current × ℕ
capped_state s = (capped s.pos, s.current, capped s.pass)

-- a block, its numbers capped
abbrev pub capped_block : Block → Block
capped_block b = record { pos = capped b.pos; size = capped b.size; status = b.status }

-- what may be between the end of one block and the next
abbrev pub gap_of : Mode → (end pos : ℕ) → List Status
gap_of Tight end pos = []
gap_of (Loose status) end pos = replicate (pos - end) status

-- what is put before a block: non-tried positions before the first one, and before another what lies between
abbrev pub padding : Mode → (listed : Bool) → (end pos : ℕ) → List Status
padding mode true end pos = gap_of mode end pos
padding mode false end pos = replicate pos NonTried
