-- What a whole command did, by what the objects tell. For contracts and proofs: no promise uses it.
use Rattle.std.specs.Prelude.{◌≡◌, ℕ, Bool, true, List}
use Rattle.crash_site.specs.Calls.{Entry}
use Rattle.rescue_console.specs.FeedState.{FeedState, Keeps as FeedKeeps}
use Rattle.program_promise.specs.World.{WorldState}
use Rattle.ddrescuelog_words.specs.Command.{Command}
use Rattle.ddrescuelog_cli.specs.declared.ending.LogEnding.{LogEnding}
use Rattle.ddrescuelog_cli.specs.Modes.{prints, puts_pieces, text_of}
use Rattle.ddrescuelog_cli.specs.Outside.{Agrees, Outside}
use Rattle.program_promise.specs.Parts.{only_calls}
use Rattle.ddrescuelog_cli.specs.Work.{LogWorks}
use Rattle.ddrescuelog_cli.specs.Answers.{TakesFeed}
use Rattle.ddrescuelog_cli.specs.After.{feed_count}
use Rattle.ddrescuelog_cli.specs.Printing.{PutsAs, PutsInPieces}

-- There is an outside, and calls there, which agree with what the objects tell. It ended as the work there does, and
-- its text was put.
pub record Ran (c : Command) (line : List ℕ) (e : LogEnding) (old new : WorldState) : Type 0 where
  pub outside : Outside
  pub calls : List Entry
  pub named : outside.line ≡ line
  pub agrees : Agrees c outside (only_calls calls) old new
  pub work : LogWorks c line outside.list outside.found outside.maps e (only_calls calls)
  pub out : PutsAs (prints c.mode) e (text_of c.mode c line outside.maps) old.console new.console
  pub pieces : puts_pieces c.mode ≡ true
      → PutsInPieces e (text_of c.mode c line outside.maps) old.console new.console

-- what stays of the feed, by how much its count rose, and what was taken of it, by whether a map is created
pub record FeedAfter (creates_map : Bool) (e : LogEnding) (old new : FeedState) : Type 0 where
  pub keeps : FeedKeeps old new
  pub counts : new.faults ≡ feed_count e old.faults
  pub takes : TakesFeed creates_map e old new
