-- What became of the files and of the feed after an answer of a mode that changes files.
-- For contracts and proofs: no promise uses it.
use Rattle.std.specs.Prelude.{◌≡◌, ℕ, false}
use Rattle.crash_site.specs.SiteState.{SiteState}
use Rattle.crash_site.specs.SiteChanges.{Keeps as SiteKeeps}
use Rattle.rescue_console.specs.FeedState.{FeedState, Keeps as FeedKeeps}
use Rattle.program_promise.specs.Causes.{changes_of}
use Rattle.ddrescuelog_cli.specs.declared.ending.LogEnding.{LogEnding}
use Rattle.ddrescuelog_cli.specs.Answers.{TakesAs, drafting_left, row_of}

-- the count of failed calls on the files, after an answer
abbrev pub site_count : LogEnding → ℕ → ℕ
site_count e faults = (changes_of (row_of e).kind).calls faults

-- the count of failed takes, after an answer
abbrev pub feed_count : LogEnding → ℕ → ℕ
feed_count e faults = (changes_of (row_of e).kind).takes faults

-- what stays of the files, also whether an image is open, by how much their count rose, what more holds of the answer,
-- and whether a draft is left begun
pub record SiteLeft (e : LogEnding) (old new : SiteState) : Type 0 where
  pub keeps : SiteKeeps old new
  pub image : new.is_open ≡ old.is_open
  pub counts : new.faults ≡ site_count e old.faults
  pub also : (row_of e).also
  pub draft : old.is_drafting ≡ false → new.is_drafting ≡ drafting_left e

-- what stays of the feed, by how much its count rose, and what was taken of it
pub record FeedLeft (e : LogEnding) (old new : FeedState) : Type 0 where
  pub keeps : FeedKeeps old new
  pub counts : new.faults ≡ feed_count e old.faults
  pub takes : TakesAs e old new
