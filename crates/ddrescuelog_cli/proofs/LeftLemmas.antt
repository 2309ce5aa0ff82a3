-- What a call that is done left in the mapfile's place.
use Rattle.std.proofs.Common.{◌≡◌, ℕ, ◌+◌, List, ◌++◌, length, Option, refl, sym, ap, ◌∙◌, subst, arith, length-append}
use Rattle.crash_site.specs.Files.{File}
use Rattle.crash_site.specs.Calls.{Entry}
use Rattle.crash_site.specs.Folder.{Folder, after}
use Rattle.crash_site.specs.Disk.{at_rest, disk_after}
use Rattle.crash_site.specs.Left.{Leaves, until}
use Rattle.crash_site.specs.SiteState.{SiteState, files_in}
use Rattle.crash_site.proofs.DiskLemmas.{reads_rest}
use Rattle.crash_site.proofs.LawLemmas.{until_all}
use Rattle.mapfile_save.specs.SaveStops.{LeftAt}
use Rattle.program_promise.specs.Program.{line_by}
use Rattle.ddrescuelog_cli.specs.Modes.{Replaces}
use Rattle.ddrescuelog_cli.specs.Ddrescuelog.{log_program}
use Rattle.ddrescuelog_cli.specs.Laws.{MapfileIsLeft}
use Rattle.ddrescuelog_cli.proofs.PromiseLemmas.{files_beside}

-- as the files read after the calls, a stop after the last of them may leave them
reads_left : (old new : SiteState) (calls : List Entry) → new.start ≡ old.start → new.calls ≡ old.calls ++ calls
    → LeftAt old calls (length calls) (files_in new)
reads_left old new calls start grew =
    let all : List Entry = old.calls ++ calls in
    let here : Leaves (disk_after (at_rest old.start) all) (after old.start all).files = reads_rest old.start all in
    let whole : until (length old.calls + length calls) all ≡ all =
    ap (λ (n : ℕ). until n all) (sym (length-append old.calls calls)) ∙ until_all all in
    let is : files_in new ≡ (after old.start all).files =
    ap (λ (s : Folder). (after s new.calls).files) start ∙ ap (λ (r : List Entry). (after old.start r).files) grew in
    subst (λ (f : List ℕ → Option File). LeftAt old calls (length calls) f) (sym is)
    (subst (λ (r : List Entry). Leaves (disk_after (at_rest old.start) r) (after old.start all).files) (sym whole) here)

pub mapfile_is_left : MapfileIsLeft
mapfile_is_left t c d asks done changing tells =
    let p = d.asked_for c asks in
    subst (λ (s : SiteState). Replaces c.mode c (line_by log_program t.words) p.outside.list p.outside.maps
    (files_in s c.mapfile)) (sym (files_beside t d.between d.says))
    ((p.leaves.stops (length p.did.gain.calls) (files_in d.between.site) (record {
      within = omega arith;
      left = reads_left t.before.site d.between.site p.did.gain.calls (d.keeps.site.start tells)
          (p.agrees.calls tells);
    })).kept (record { changes = changing; done = done; last = refl }))
