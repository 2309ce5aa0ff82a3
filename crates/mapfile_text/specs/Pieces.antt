-- The pieces in which a mapfile's text is written.
use Rattle.std.specs.Prelude.{◌≡◌, ℕ, ◌+◌, ◌*◌, ◌/◌, ◌<◌, List, [], ◌∷◌, length, map, take, drop, slice_get, Some}
use Rattle.std.specs.List.{concat, range_with_len}

-- the piece of a text with a number: 4,096 bytes, or as many as are left
abbrev pub piece : List ℕ → ℕ → List ℕ
piece text i = take 4096 (drop (4096 * i) text)

-- the pieces of a text, which is cut every 4,096 bytes
unfoldable pub pieces_of : List ℕ → List (List ℕ)
pieces_of text = map (piece text) (range_with_len 0 ((length text + 4095) / 4096))

-- what is got from a text by taking 4,096 bytes off its front until nothing is left
abbrev pub AreTakenOff : List (List ℕ) → List ℕ → Type 0
AreTakenOff [] text = text ≡ []
AreTakenOff (p ∷ ps) text = (0 < length text) × (p ≡ take 4096 text) × AreTakenOff ps (drop 4096 text)

-- a text in pieces: joined they are the text; none is empty, and each but the last has 4,096 bytes
pub record InPieces (ps : List (List ℕ)) (text : List ℕ) : Type 0 where
  pub together : concat ps ≡ text
  pub some : (i : ℕ) (p : List ℕ) → slice_get ps i ≡ Some p → 0 < length p
  pub full : (i : ℕ) (p : List ℕ) → slice_get ps i ≡ Some p → i + 1 < length ps → length p ≡ 4096
