-- How a mapfile that is done is removed. For contracts and proofs: no promise uses it.
use Rattle.std.specs.Prelude.{◌≡◌, ℕ, IsTrue, List, ◌++◌}
use Rattle.crash_site.specs.Calls.{Entry}
use Rattle.crash_site.specs.SiteState.{SiteState}
use Rattle.ddrescuelog_words.specs.Command.{Command}
use Rattle.ddrescuelog_cli.specs.declared.ending.LogEnding.{LogEnding}
use Rattle.ddrescuelog_cli.specs.Maps.{Maps}
use Rattle.program_promise.specs.Parts.{only_calls}
use Rattle.ddrescuelog_cli.specs.Work.{WorksOver}

-- A removal ends as the work over these maps does, with calls that are the site's own if it tells.
pub record RemovesDone (c : Command) (m : Maps) (e : LogEnding) (old new : SiteState) : Type 0 where
  pub calls : List Entry
  pub gained : IsTrue old.tells → new.calls ≡ old.calls ++ calls
  pub ends : (line list : List ℕ) → WorksOver c line list m e (only_calls calls)
