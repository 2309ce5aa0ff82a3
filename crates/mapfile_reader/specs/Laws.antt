-- What the shape of a mapfile's text means.
use Rattle.std.specs.Prelude.{◌≡◌, ℕ, Bool, List, length}
use Rattle.block_list.specs.declared.status.Status.{Status}
use Rattle.mapfile_text.specs.declared.state.MapState.{MapState}
use Rattle.mapfile_text.specs.declared.read.Mode.{Mode}
use Rattle.mapfile_text.specs.MapText.{IsMapText}
use Rattle.mapfile_reader.specs.declared.check.MapShape.{MapShape}
use Rattle.mapfile_reader.specs.Checking.{IsMapShape}

-- the shape of a map is that of its reading
abbrev pub ShapeIsOfReading : Type 0
ShapeIsOfReading = (text : List ℕ) (mode : Mode) (shape : MapShape) (state : MapState) (first : ℕ) (listed : Bool)
    (statuses : List Status) → IsMapShape text mode shape → IsMapText text mode state first listed statuses
    → (shape.state ≡ state) × (shape.first ≡ first) × (shape.listed ≡ listed) × (shape.end ≡ length statuses)
