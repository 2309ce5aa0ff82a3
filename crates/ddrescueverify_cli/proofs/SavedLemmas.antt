-- What stands once the map was saved.
use Rattle.std.proofs.Common.{◌≡◌, ℕ, ◌+◌, List, ◌++◌, length, Option, sym, ap, ◌∙◌, subst, length-append}
use Rattle.crash_site.specs.Files.{File}
use Rattle.crash_site.specs.Calls.{Entry}
use Rattle.crash_site.specs.Folder.{Folder, after}
use Rattle.crash_site.specs.Disk.{at_rest, disk_after}
use Rattle.crash_site.specs.Left.{Leaves, until}
use Rattle.crash_site.specs.SiteState.{SiteState, files_in}
use Rattle.crash_site.proofs.DiskLemmas.{reads_rest}
use Rattle.crash_site.proofs.LawLemmas.{until_all}
use Rattle.mapfile_save.specs.SaveStops.{LeftAt}
use Rattle.program_promise.specs.World.{WorldState, Told}
use Rattle.program_promise.specs.Program.{line_by}
use Rattle.program_promise.specs.Promise.{Says, Nothing, Message}
use Rattle.ddrescueverify_cli.specs.declared.ending.VerifyEnding.{VerifyEnding}
use Rattle.ddrescueverify_cli.specs.Ddrescueverify.{verify_program}
use Rattle.ddrescueverify_cli.specs.Laws.{SavedIsVerified}
use Rattle.ddrescueverify_cli.specs.Stops.{IsVerifiedMap}

-- what is said touches no file
same_site : (t : Told VerifyEnding) (between : WorldState) → Says verify_program t between
    → t.after.site ≡ between.site
same_site t between (Nothing why same) = ap (λ (w : WorldState). w.site) same
same_site t between (Message loud may rest put schedule) = ap (λ (w : WorldState). w.site) rest

pub saved_is : SavedIsVerified
saved_is t c d asks tells saved =
    let p = d.asked_for c asks in
    let site : SiteState = t.before.site in
    let calls : List Entry = p.did.gain.calls in
    let all : List Entry = site.calls ++ calls in
    let reads : List ℕ → Option File = (after site.start all).files in
    let count : length site.calls + length calls ≡ length all = sym (length-append site.calls calls) in
    let whole : until (length site.calls + length calls) all ≡ all =
    ap (λ (k : ℕ). until k all) count ∙ until_all all in
    let left : LeftAt site calls (length calls) reads =
    subst (λ (es : List Entry). Leaves (disk_after (at_rest site.start) es) reads) (sym whole)
    (reads_rest site.start all) in
    let now : files_in t.after.site ≡ reads =
    ap (λ (s : SiteState). files_in s) (same_site t d.between d.says)
    ∙ ap (λ (s : Folder). (after s d.between.site.calls).files) (d.keeps.site.start tells)
    ∙ ap (λ (es : List Entry). (after site.start es).files) (p.agrees.calls tells) in
    subst (λ (files : List ℕ → Option File). IsVerifiedMap c (line_by verify_program t.words) p.outside site (files c.mapfile))
    (sym now) ((p.leaves.stops tells).kept reads saved left)
