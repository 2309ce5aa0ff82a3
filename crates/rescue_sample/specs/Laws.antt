-- What the definitions mean.
use Rattle.std.specs.Prelude.{◌≡◌, ℕ, List, [], ◌∷◌}
use Rattle.rescue_rules.specs.Setting.{Setting}
use Rattle.rescue_rules.specs.Machine.{Machine}
use Rattle.rescue_sample.specs.Sample.{bad_sectors}
use Rattle.rescue_sample.specs.Line.{IsSampleLine}

-- A sample has one line at most: it depends on the size alone, for a rescue that asks for one thing.
abbrev pub HasOneLine : Type 0
HasOneLine = (kib : ℕ) (s : Setting) (m : Machine) (line line' : List ℕ) → IsSampleLine kib s m line
    → IsSampleLine kib s m line' → line ≡ line'

-- In the smallest sample the first of its two sectors is bad.
abbrev pub SmallestHasOneBad : Type 0
SmallestHasOneBad = bad_sectors 1 ≡ 0 ∷ []
