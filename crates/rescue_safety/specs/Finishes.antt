-- How a mapfile's text marks a position, and when it calls one finished.
use Rattle.std.specs.Prelude.{ℕ, Bool, List}
use Rattle.block_list.specs.declared.status.Status.{Status}
use Rattle.block_list.specs.declared.status.Status.TheVariants.{Finished}
use Rattle.block_list.specs.Map.{Has}
use Rattle.mapfile_text.specs.declared.read.Mode.TheVariants.{Tight}
use Rattle.mapfile_text.specs.declared.state.MapState.{MapState}
use Rattle.mapfile_text.specs.MapText.{IsMapText}

-- A text is a map in which the position x has this status.
pub record Says (text : List ℕ) (status : Status) (x : ℕ) : Type 0 where
  pub shown : MapState
  pub first : ℕ
  pub listed : Bool
  pub statuses : List Status
  pub reads : IsMapText text Tight shown first listed statuses
  pub has : Has statuses status x

-- A text is a map that calls the position x finished.
abbrev pub Finishes : (text : List ℕ) → (x : ℕ) → Type 0
Finishes text x = Says text Finished x
