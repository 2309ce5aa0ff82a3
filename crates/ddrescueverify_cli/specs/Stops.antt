-- What may be found at whatever moment `ddrescueverify` is stopped.
use Rattle.std.specs.Prelude.{◌≡◌, ◌≢◌, ◌⊎◌, ℕ, ◌≤◌, true, false, List, length, take, Option, Some}
use Rattle.block_list.specs.declared.status.Status.{Status}
use Rattle.mapfile_text.specs.declared.state.MapState.{MapState}
use Rattle.mapfile_text.specs.Printed.{printed}
use Rattle.crash_site.specs.Files.{File, bytes_of}
use Rattle.crash_site.specs.Disk.{lost_in}
use Rattle.crash_site.specs.Left.{MatchesFile}
use Rattle.crash_site.specs.SiteState.{SiteState, files_in}
use Rattle.mapfile_save.specs.MapNames.{names_of}
use Rattle.mapfile_save.specs.SaveStops.{disk_of, text_file, IsEmptyDraft, LeftAt, CouldBefore}
use Rattle.rescue_rules.specs.Start.{Stands}
use Rattle.rescue_rules.specs.Stops.{has_barrier}
use Rattle.program_promise.specs.Work.{Deeds}
use Rattle.rescue_verify.specs.Pieces.{NoneFrom, end_of_reads}
use Rattle.rescue_verify.specs.Looks.{reads_of}
use Rattle.rescue_verify.specs.Verified.{verified}
use Rattle.ddrescueverify_words.specs.Command.{Command}
use Rattle.ddrescueverify_cli.specs.declared.ending.VerifyEnding.{VerifyEnding}
use Rattle.ddrescueverify_cli.specs.Answers.{is_saved}
use Rattle.ddrescueverify_cli.specs.Asked.{heading_of, comparison_of, shown_by}
use Rattle.ddrescueverify_cli.specs.Outside.{Outside, place_by}

-- The new mapfile, whole: all pieces were compared, and it is the printed map of what the mapfile gave, verified by the
-- reads that were made and by the output as it was.
pub record IsVerifiedMap (c : Command) (line : List ℕ) (o : Outside) (site : SiteState) (found : Option File)
    : Type 0 where
  pub statuses : List Status
  pub shown : MapState
  pub stands : Stands (files_in site c.mapfile) o.end statuses (Some shown)
  pub all : NoneFrom (comparison_of c.options o.end statuses).compared (end_of_reads 0 (reads_of o.looks))
  pub is : found ≡ Some (text_file (printed (heading_of line) (shown_by shown o.looks)
      (verified statuses (reads_of o.looks) (bytes_of (files_in site c.outfile)) (place_by c))))

-- At whatever moment a call is stopped, between or within its calls on the files:
pub record StopsSafely (c : Command) (line : List ℕ) (o : Outside) (did : Deeds) (site : SiteState)
    (answer : VerifyEnding) : Type 0 where
  -- before the barrier has returned, each file could be found so before, except that an absent draft may be there, empty
  pub before : (k : ℕ) (files : List ℕ → Option File) (name : List ℕ) → k ≤ length did.gain.calls
      → LeftAt site did.gain.calls k files → has_barrier (take k did.gain.calls) ≡ false
      → CouldBefore site name (files name) ⊎ IsEmptyDraft site (names_of c.mapfile).draft name (files name)
  -- once the barrier has returned, the output is found as it was, except where it was lost before
  pub output : (k : ℕ) (files : List ℕ → Option File) → k ≤ length did.gain.calls
      → LeftAt site did.gain.calls k files → has_barrier (take k did.gain.calls) ≡ true
      → MatchesFile (files_in site c.outfile) (lost_in ((disk_of site).shows c.outfile)) (files c.outfile)
  -- once the barrier has returned, the mapfile is found as it was, or as the new one, whole
  pub mapfile : (k : ℕ) (files : List ℕ → Option File) → k ≤ length did.gain.calls
      → LeftAt site did.gain.calls k files → has_barrier (take k did.gain.calls) ≡ true
      → (files c.mapfile ≡ files_in site c.mapfile) ⊎ IsVerifiedMap c line o site (files c.mapfile)
  -- once there is an answer before which the map is saved, the mapfile is the new one
  pub kept : (files : List ℕ → Option File) → is_saved answer ≡ true
      → LeftAt site did.gain.calls (length did.gain.calls) files → IsVerifiedMap c line o site (files c.mapfile)
  -- Any file except the output, the mapfile and its draft could be found so before.
  pub others : (k : ℕ) (files : List ℕ → Option File) (name : List ℕ) → k ≤ length did.gain.calls
      → LeftAt site did.gain.calls k files → name ≢ c.outfile → name ≢ c.mapfile
      → name ≢ (names_of c.mapfile).draft → CouldBefore site name (files name)
