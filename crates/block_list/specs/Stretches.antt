-- The maximal stretches of equal statuses that a map consists of.
use Rattle.std.specs.Prelude.{◌≡◌, ℕ, ◌+◌, ◌-◌, ◌<◌, ◌≤◌, List, [], ◌∷◌, length, drop, replicate, slice_get, Some, if◌then◌else◌}
use Rattle.std.specs.List.{flat_map}
use Rattle.block_list.specs.declared.status.Status.{Status}
use Rattle.block_list.specs.declared.block.Block.{Block}
use Rattle.block_list.specs.Status.{same}
use Rattle.block_list.specs.Map.{Has}

-- stretches with one more position before them: it joins the first stretch if that has its status
abbrev pub joined : ℕ → Status → List Block → List Block
joined pos s [] = record { pos = pos; size = 1; status = s } ∷ []
joined pos s (b ∷ bs) =
    if same s b.status then record { pos = pos; size = b.size + 1; status = s } ∷ bs
    else record { pos = pos; size = 1; status = s } ∷ b ∷ bs

-- the maximal stretches of equal statuses of a map whose first position is this one, in order
abbrev pub stretches_from : ℕ → List Status → List Block
stretches_from pos [] = []
stretches_from pos (s ∷ map) = joined pos s (stretches_from (pos + 1) map)

-- the maximal stretches of equal statuses of a map, in order
abbrev pub stretches : List Status → List Block
stretches map = stretches_from 0 map

-- the stretches of what is left of a map from a position on
abbrev pub stretches_after : ℕ → List Status → List Block
stretches_after x map = stretches_from x (drop x map)

-- the positions that a block covers, with its status
abbrev pub covered : Block → List Status
covered b = replicate b.size b.status

-- a maximal stretch of a map: it isn't empty, all its positions have its status, and neither neighbor has it
pub record IsStretch (map : List Status) (b : Block) : Type 0 where
  pub some : 0 < b.size
  pub has : (x : ℕ) → b.pos ≤ x → x < b.pos + b.size → Has map b.status x
  pub starts : (x : ℕ) → x + 1 ≡ b.pos → Has map b.status x → ⊥
  pub stops : Has map b.status (b.pos + b.size) → ⊥

-- the maximal stretch of a map that holds a position
pub record IsStretchAt (map : List Status) (x : ℕ) (b : Block) : Type 0 where
  pub stretch : IsStretch map b
  pub begun : b.pos ≤ x
  pub holds : x < b.pos + b.size

-- the part of a block from a position inside it on
abbrev pub back_of : Block → ℕ → Block
back_of b at = record { pos = at; size = b.pos + b.size - at; status = b.status }

-- what the stretches of a map are: maximal ones, the first at 0, each where the one before ends, and together the map
pub record AreStretches (map : List Status) (bs : List Block) : Type 0 where
  pub each : (i : ℕ) (b : Block) → slice_get bs i ≡ Some b → IsStretch map b
  pub first : (b : Block) → slice_get bs 0 ≡ Some b → b.pos ≡ 0
  pub next : (i : ℕ) (a b : Block) → slice_get bs i ≡ Some a → slice_get bs (i + 1) ≡ Some b → b.pos ≡ a.pos + a.size
  pub together : flat_map covered bs ≡ map

-- each position of a map is held by one stretch, which is among the stretches of the map
abbrev pub OneStretchHolds : Type 0
OneStretchHolds = (map : List Status) (x : ℕ) → x < length map
    → (b : Block) × IsStretchAt map x b × ((i : ℕ) × (slice_get (stretches map) i ≡ Some b))
    × ((c : Block) → IsStretchAt map x c → c ≡ b)

-- the stretch that holds the end of another begins there
abbrev pub StretchesMeet : Type 0
StretchesMeet = (map : List Status) (x : ℕ) (b c : Block) → IsStretchAt map x b → IsStretchAt map (b.pos + b.size) c
    → c.pos ≡ b.pos + b.size

-- what is left of a map from a position on begins with the rest of the stretch that holds it
abbrev pub StretchesGoOn : Type 0
StretchesGoOn = (map : List Status) (x : ℕ) (b : Block) → IsStretchAt map x b
    → stretches_after x map ≡ back_of b x ∷ stretches_after (b.pos + b.size) map
