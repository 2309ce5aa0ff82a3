-- What the work of `ddrescuelog` finds outside of it, and how that agrees with what the objects tell.
use Rattle.std.specs.Prelude.{◌≡◌, ℕ, IsTrue, List, ◌++◌}
use Rattle.crash_site.specs.SiteState.{files_in}
use Rattle.program_promise.specs.Work.{Deeds, IsOnlyCalls}
use Rattle.program_promise.specs.World.{WorldState}
use Rattle.ddrescuelog_words.specs.Command.{Command}
use Rattle.ddrescuelog_cli.specs.Maps.{Found, Maps, found_in, AreMapsOf, AreAskedFor}

-- The command line, which a saved map shows, the list that the feed gives, the files of the steps, and the maps by
-- which the work goes.
pub record Outside : Type 0 where
  pub line : List ℕ
  pub list : List ℕ
  pub found : Found
  pub maps : Maps

-- What an object tells is its own; and the maps are those that the words name, which are what the files are. Nothing is
-- done but calls on the files.
pub record Agrees (c : Command) (o : Outside) (did : Deeds) (old new : WorldState) : Type 0 where
  pub found : IsTrue old.site.tells → o.found ≡ found_in c (files_in old.site)
  pub list : IsTrue old.feed_.tells → o.list ≡ old.feed_.left
  pub calls : IsTrue old.site.tells → new.site.calls ≡ old.site.calls ++ did.gain.calls
  pub alone : IsOnlyCalls did
  pub asked : AreAskedFor c o.maps
  pub are : AreMapsOf c o.found o.maps
