-- What of a map is finished.
use Rattle.std.specs.Prelude.{ℕ, Bool, false, List, Option, Some, None, slice_get}
use Rattle.block_list.specs.declared.status.Status.{Status}
use Rattle.block_list.specs.declared.status.Status.TheVariants.{Finished}
use Rattle.block_list.specs.Status.{same}

-- there is a status, and it is that of a finished position
abbrev pub is_finished : Option Status → Bool
is_finished None = false
is_finished (Some status) = same status Finished

-- a position is finished in a map; its end and what lies past it isn't
abbrev pub is_finished_at : List Status → ℕ → Bool
is_finished_at map x = is_finished (slice_get map x)
