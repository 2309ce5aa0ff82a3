-- Lines and scenes of a text. For contracts and proofs: no promise uses it.
use Rattle.std.specs.Prelude.{ℕ, ◌+◌, ◌-◌, ◌≡◌, Bool, true, List, [], ◌∷◌, take, nat_eq, codes, if◌then◌else◌, ◌&&◌}
use Rattle.std.specs.List.{starts_with}

-- a part of a text is a scene, or what comes before the first scene
-- a part ends with this byte: nothing follows, or the byte ends a line and the next one begins with `scene`
abbrev pub is_part_end : ℕ → List ℕ → Bool
is_part_end byte [] = true
is_part_end byte (next ∷ rest) = nat_eq byte 10 && starts_with nat_eq (next ∷ rest) (codes "scene")

-- how many bytes the first part of a text has
abbrev pub part_length : List ℕ → ℕ
part_length [] = 0
part_length (byte ∷ rest) = if is_part_end byte rest then 1 else 1 + part_length rest

-- how many parts a text has
abbrev pub part_count : List ℕ → ℕ
part_count [] = 0
part_count (byte ∷ rest) = if is_part_end byte rest then 1 + part_count rest else part_count rest

-- how many scenes a text has: how many of its lines begin with `scene`
abbrev pub scene_count : List ℕ → ℕ
scene_count text = if starts_with nat_eq text (codes "scene") then part_count text else part_count text - 1

-- the first line of a text, with its newline
abbrev pub first_line : List ℕ → List ℕ
first_line [] = []
first_line (byte ∷ rest) = if nat_eq byte 10 then byte ∷ [] else byte ∷ first_line rest

-- the last byte of a text that comes after a byte
abbrev pub last_byte : ℕ → List ℕ → ℕ
last_byte before [] = before
last_byte before (byte ∷ rest) = last_byte byte rest

-- a line begins at a place: the text begins there, or the byte before is a newline
abbrev pub IsLineStart : List ℕ → ℕ → Type 0
IsLineStart text place = last_byte 10 (take place text) ≡ 10
