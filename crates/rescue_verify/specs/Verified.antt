-- What a comparison makes of a map.
use Rattle.std.specs.Prelude.{◌≡◌, ℕ, ◌+◌, Bool, ◌&&◌, nat_le, nat_lt, List, [], ◌∷◌, map, length, if◌then◌else◌}
use Rattle.std.specs.List.{list_any}
use Rattle.block_list.specs.declared.status.Status.{Status}
use Rattle.block_list.specs.declared.status.Status.TheVariants.{NonTried}
use Rattle.block_list.specs.Map.{Has, marked}
use Rattle.faulty_source.specs.Journal.{Reading}
use Rattle.rescue_verify.specs.Looks.{Look, differs, seen_in}

-- a map after one look: the piece is to be copied again if it differs
abbrev pub judged : List Status → Look → List Status
judged statuses l = if differs l then marked statuses l.read.pos l.read.asked NonTried else statuses

-- a map after these looks, one after the other
abbrev pub judged_by : List Status → List Look → List Status
judged_by statuses [] = statuses
judged_by statuses (l ∷ looks) = judged_by (judged statuses l) looks

-- The map of a comparison, by the reads that it made and by the image: `?` for each piece whose read was whole and
-- whose bytes the image doesn't have at the piece's place, or not all of them. Everything else is as it was.
abbrev pub verified : List Status → List Reading → (image : List ℕ) → (place : ℕ → ℕ) → List Status
verified statuses reads image place = judged_by statuses (map (seen_in image place) reads)

-- ---- position by position

-- a look at a piece that has the position
abbrev pub is_of_position : ℕ → Look → Bool
is_of_position x l = nat_le l.read.pos x && nat_lt x (l.read.pos + l.read.asked)

-- a piece that differs has the position
abbrev pub is_doubted : List Look → ℕ → Bool
is_doubted looks x = list_any (λ l. differs l && is_of_position x l) looks

-- A map that has `?` at each position of a piece that differs, and everywhere else what it had.
pub record IsJudged (looks : List Look) (old new : List Status) : Type 0 where
  pub size : length new ≡ length old
  pub each : (x : ℕ) (status : Status) → Has old status x
      → Has new (if is_doubted looks x then NonTried else status) x
