-- What the definitions of a mapfile's text mean.
use Rattle.std.specs.Prelude.{◌≡◌, ◌↔◌, ◌⊎◌, ℕ, ◌<◌, ◌^◌, Bool, not, List, length, nat_eq}
use Rattle.block_list.specs.declared.status.Status.{Status}
use Rattle.mapfile_text.specs.declared.state.MapState.{MapState}
use Rattle.mapfile_text.specs.declared.read.Mode.{Mode}
use Rattle.mapfile_text.specs.declared.read.MapError.{MapError}
use Rattle.mapfile_text.specs.HeadingLines.{HeadingLines}
use Rattle.mapfile_text.specs.Printed.{printed}
use Rattle.mapfile_text.specs.Pieces.{pieces_of, AreTakenOff, InPieces}
use Rattle.mapfile_text.specs.MapText.{IsMapText, MapFault}

-- two readings are the same: their states, first positions and statuses, and whether they list a block
pub record SameReading (state state' : MapState) (first first' : ℕ) (listed listed' : Bool)
    (statuses statuses' : List Status) : Type 0 where
  pub state_is : state ≡ state'
  pub first_is : first ≡ first'
  pub listed_is : listed ≡ listed'
  pub statuses_is : statuses ≡ statuses'

-- two readings of one text in one mode are the same
abbrev pub HasOneReading : Type 0
HasOneReading = (text : List ℕ) (mode : Mode) (state state' : MapState) (first first' : ℕ) (listed listed' : Bool)
    (statuses statuses' : List Status)
    → IsMapText text mode state first listed statuses → IsMapText text mode state' first' listed' statuses'
    → SameReading state state' first first' listed listed' statuses statuses'

-- a text that is a map has no fault
abbrev pub MapHasNoFault : Type 0
MapHasNoFault = (text : List ℕ) (mode : Mode) (state : MapState) (first : ℕ) (listed : Bool) (statuses : List Status)
    (e : MapError) → IsMapText text mode state first listed statuses → MapFault text mode e → ⊥

-- a text that is no map has one fault
abbrev pub HasOneFault : Type 0
HasOneFault = (text : List ℕ) (mode : Mode) (e e' : MapError) → MapFault text mode e → MapFault text mode e' → e ≡ e'

-- each text is a map or has a fault
abbrev pub IsMapOrHasFault : Type 0
IsMapOrHasFault = (text : List ℕ) (mode : Mode)
    → ((state : MapState) × (first : ℕ) × (listed : Bool) × (statuses : List Status)
    × IsMapText text mode state first listed statuses)
    ⊎ ((e : MapError) × MapFault text mode e)

-- a state and a map within the limits, printed under a heading, are read again as they were, in any mode
abbrev pub PrintedIsRead : Type 0
PrintedIsRead = (heading : HeadingLines) (state : MapState) (statuses : List Status) (mode : Mode)
    → heading.start_s < 2 ^ 64 → heading.now_s < 2 ^ 64 → state.pos < 2 ^ 63 → 0 < state.pass → state.pass < 2 ^ 32
    → length statuses < 2 ^ 63
    → IsMapText (printed heading state statuses) mode state 0 (not (nat_eq (length statuses) 0)) statuses

-- what is got from a text by taking 4,096 bytes off its front until nothing is left is its pieces, and nothing else is
abbrev pub TakingGivesPieces : Type 0
TakingGivesPieces = (ps : List (List ℕ)) (text : List ℕ) → AreTakenOff ps text ↔ (ps ≡ pieces_of text)

-- the pieces of a text are the text, cut where each but the last is full
abbrev pub PiecesAreTheText : Type 0
PiecesAreTheText = (text : List ℕ) → InPieces (pieces_of text) text
