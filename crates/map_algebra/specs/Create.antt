-- The map of listed blocks.
use Rattle.std.specs.Prelude.{ℕ, Bool, List, if◌then◌else◌}
use Rattle.block_list.specs.declared.status.Status.{Status}
use Rattle.block_list.specs.declared.status.Status.TheVariants.{NonTried, Finished}
use Rattle.block_list.specs.Status.{same}
use Rattle.map_algebra.specs.declared.shape.Shape.{Shape}
use Rattle.map_counts.specs.At.{map_by}
use Rattle.map_algebra.specs.Blocks.{is_in_blocks}

-- The positions of the domain get one status if they lie in a listed block, and another elsewhere; what isn't in the
-- domain is non-tried. Numbers may come in any order, and more than once.
abbrev pub created_map : Shape → List ℕ → (domain : ℕ → Bool) → (listed rest : Status) → (end : ℕ) → List Status
created_map s ks domain listed rest end =
    map_by (λ x. if domain x then (if is_in_blocks s ks x then listed else rest) else NonTried) end

-- the mark of a position: finished if it lies in a listed block, and else non-tried
abbrev pub mark_of : Shape → List ℕ → ℕ → Status
mark_of s ks x = if is_in_blocks s ks x then Finished else NonTried

-- what a created map has at this mark
abbrev pub at_mark : (mark : Status) → (inside : Bool) → (listed rest : Status) → Status
at_mark mark inside listed rest = if inside then (if same mark Finished then listed else rest) else NonTried
