-- When a text is a map, and of what; else why it is none.
use Rattle.std.specs.Prelude.{◌≡◌, ◌⊎◌, ℕ, ◌+◌, ◌-◌, ◌<◌, ◌≤◌, ◌^◌, Bool, true, false, List, [], ◌∷◌, ◌++◌, length, replicate, Some, None}
use Rattle.block_list.specs.declared.status.Status.{Status}
use Rattle.block_list.specs.declared.status.Status.TheVariants.{NonTried}
use Rattle.block_list.specs.declared.block.Block.{Block}
use Rattle.mapfile_text.specs.declared.state.MapState.{MapState}
use Rattle.mapfile_text.specs.declared.read.Mode.{Mode}
use Rattle.mapfile_text.specs.declared.read.Mode.TheVariants.{Tight, Loose}
use Rattle.mapfile_text.specs.declared.read.MapError.{MapError}
use Rattle.mapfile_text.specs.declared.read.MapError.TheVariants.{NoStatusLine, BadStatusLine, BadBlockLine, Gap, Overlap, TooLarge, TooLong}
use Rattle.mapfile_text.specs.Lines.{Line, said_lines}
use Rattle.mapfile_text.specs.Fields.{state_of, block_of}

-- the most bytes that the text of a mapfile may have: 2^28
abbrev pub text_limit : ℕ
text_limit = 268435456

-- a status line spells a state, within the limits of position and pass
pub record IsStateLine (line : Line) (state : MapState) : Type 0 where
  pub spells : state_of line.fields ≡ Some state
  pub pos : state.pos < 2 ^ 63
  pub pass : state.pass < 2 ^ 32

-- a block line spells a block that ends below 2^63
pub record IsBlockLine (line : Line) (block : Block) : Type 0 where
  pub spells : block_of line.fields ≡ Some block
  pub end : block.pos + block.size < 2 ^ 63

-- what may be between the end of one block and the next: nothing, or in a loose map a gap, which gets a status
abbrev pub IsGap : Mode → (end pos : ℕ) → List Status → Type 0
IsGap Tight end pos gap = (pos ≡ end) × (gap ≡ [])
IsGap (Loose status) end pos gap = (end ≤ pos) × (gap ≡ replicate (pos - end) status)

-- Block lines after one that ended at a place list these statuses.
abbrev pub Continues : Mode → ℕ → List Line → List Status → Type 0
Continues mode end [] statuses = statuses ≡ []
Continues mode end (l ∷ ls) statuses =
    (block : Block) × (gap rest : List Status) × IsBlockLine l block × IsGap mode end block.pos gap
    × (statuses ≡ gap ++ (replicate block.size block.status ++ rest)) × Continues mode (block.pos + block.size) ls rest

-- Block lines list these statuses from the position of the first one on; the positions below it are non-tried.
abbrev pub Lists : Mode → List Line → (first : ℕ) → (listed : Bool) → List Status → Type 0
Lists mode [] first listed statuses = (first ≡ 0) × (listed ≡ false) × (statuses ≡ [])
Lists mode (l ∷ ls) first listed statuses =
    (block : Block) × (rest : List Status) × IsBlockLine l block × (first ≡ block.pos) × (listed ≡ true)
    × (statuses ≡ replicate first NonTried ++ (replicate block.size block.status ++ rest))
    × Continues mode (block.pos + block.size) ls rest

-- Lines are a map: the first is a status line, and the others are block lines that list these statuses.
abbrev pub AreMapLines : Mode → List Line → MapState → ℕ → Bool → List Status → Type 0
AreMapLines mode [] state first listed statuses = ⊥
AreMapLines mode (l ∷ ls) state first listed statuses = IsStateLine l state × Lists mode ls first listed statuses

-- A text is a map: its first line that says something is a status line, and the others are block lines, each of
-- which begins where the one before ends; in a loose map it may begin later. `first` is the position of the first
-- block, and `listed` whether there is one.
pub record IsMapText (text : List ℕ) (mode : Mode) (state : MapState) (first : ℕ) (listed : Bool)
    (statuses : List Status) : Type 0 where
  pub reads : AreMapLines mode (said_lines text) state first listed statuses

-- no line of a text says anything
abbrev pub Blank : List ℕ → Type 0
Blank text = said_lines text ≡ []

-- why a status line is none
abbrev pub StateFault : Line → MapError → Type 0
StateFault line e =
    ((e ≡ BadStatusLine line.number) × (state_of line.fields ≡ None))
    ⊎ ((e ≡ TooLarge line.number) × (state : MapState) × (state_of line.fields ≡ Some state)
    × (2 ^ 63 ≤ state.pos ⊎ 2 ^ 32 ≤ state.pass))

-- why a block line is none
abbrev pub BlockFault : Line → MapError → Type 0
BlockFault line e =
    ((e ≡ BadBlockLine line.number) × (block_of line.fields ≡ None))
    ⊎ ((e ≡ TooLarge line.number) × (block : Block) × (block_of line.fields ≡ Some block)
    × (2 ^ 63 ≤ block.pos + block.size))

-- why a block can't follow one that ended at a place
abbrev pub PlaceFault : Mode → ℕ → Line → Block → MapError → Type 0
PlaceFault Tight end line block e =
    ((e ≡ Overlap line.number) × (block.pos < end)) ⊎ ((e ≡ Gap line.number) × (end < block.pos))
PlaceFault (Loose status) end line block e = (e ≡ Overlap line.number) × (block.pos < end)

-- the first line that breaks a rule, after a block that ended at a place
abbrev pub ContinuesFault : Mode → ℕ → List Line → MapError → Type 0
ContinuesFault mode end [] e = ⊥
ContinuesFault mode end (l ∷ ls) e =
    BlockFault l e
    ⊎ ((block : Block) × IsBlockLine l block × PlaceFault mode end l block e)
    ⊎ ((block : Block) × (gap : List Status) × IsBlockLine l block × IsGap mode end block.pos gap
    × ContinuesFault mode (block.pos + block.size) ls e)

-- the first line that breaks a rule among block lines
abbrev pub ListsFault : Mode → List Line → MapError → Type 0
ListsFault mode [] e = ⊥
ListsFault mode (l ∷ ls) e =
    BlockFault l e ⊎ ((block : Block) × IsBlockLine l block × ContinuesFault mode (block.pos + block.size) ls e)

-- why lines are no map: there is none, or the first one that breaks a rule
abbrev pub MapLinesFault : Mode → List Line → MapError → Type 0
MapLinesFault mode [] e = e ≡ NoStatusLine
MapLinesFault mode (l ∷ ls) e = StateFault l e ⊎ ((state : MapState) × IsStateLine l state × ListsFault mode ls e)

-- why a text is no map: no line says anything, or the first line that breaks a rule
pub record MapFault (text : List ℕ) (mode : Mode) (e : MapError) : Type 0 where
  pub breaks : MapLinesFault mode (said_lines text) e

-- why a text is refused: it is longer than the limit, or within it and no map
abbrev pub IsRefused : List ℕ → Mode → MapError → Type 0
IsRefused text mode e =
    ((e ≡ TooLong) × (text_limit < length text)) ⊎ ((length text ≤ text_limit) × MapFault text mode e)
