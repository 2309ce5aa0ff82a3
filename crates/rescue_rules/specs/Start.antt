-- What a mapfile stands for.
use Rattle.std.specs.Prelude.{◌≡◌, ℕ, Bool, List, replicate, Option, Some, None}
use Rattle.block_list.specs.declared.status.Status.{Status}
use Rattle.block_list.specs.declared.status.Status.TheVariants.{NonTried}
use Rattle.block_list.specs.Map.{extended}
use Rattle.mapfile_text.specs.declared.state.MapState.{MapState}
use Rattle.mapfile_text.specs.declared.read.Mode.TheVariants.{Tight}
use Rattle.mapfile_text.specs.MapText.{IsMapText, Blank}
use Rattle.crash_site.specs.Files.{File}

-- nothing of the input was tried yet, and nothing says where the rescue is
pub record IsFresh (end : ℕ) (map : List Status) (state : Option MapState) : Type 0 where
  pub map_is : map ≡ replicate end NonTried
  pub state_is : state ≡ None

-- the map that a text is, followed by non-tried positions up to the input's end, and the state that the text shows
pub record IsResumed (text : List ℕ) (end : ℕ) (map : List Status) (state : Option MapState) : Type 0 where
  pub shown : MapState
  pub first : ℕ
  pub listed : Bool
  pub statuses : List Status
  pub reads : IsMapText text Tight shown first listed statuses
  pub map_is : map ≡ extended statuses end
  pub state_is : state ≡ Some shown

-- what a mapfile's text stands for; one of comments and blank lines alone is like no mapfile
pub data TextStands (text : List ℕ) (end : ℕ) (map : List Status) (state : Option MapState) : Type 0 where
  AsNone : Blank text → IsFresh end map state → TextStands text end map state
  AsMap : IsResumed text end map state → TextStands text end map state

-- what a mapfile stands for: its text, or an input that wasn't tried if it is absent
abbrev pub StandsFor : Option File → (end : ℕ) → List Status → (state : Option MapState) → Type 0
StandsFor None end map state = IsFresh end map state
StandsFor (Some f) end map state = TextStands f.bytes end map state

-- A mapfile, absent or not, stands for a map of an input with a length, and for the state of its status line, if it has
-- one. How long its text may be is no matter of this.
pub record Stands (mapfile : Option File) (end : ℕ) (map : List Status) (state : Option MapState) : Type 0 where
  pub stands : StandsFor mapfile end map state
