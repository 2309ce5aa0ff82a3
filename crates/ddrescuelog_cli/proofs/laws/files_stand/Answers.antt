-- The promise says so.
use Rattle.std.proofs.Common.{inl, ap, ◌∙◌}
use Rattle.crash_site.specs.SiteState.{SiteState, files_in}
use Rattle.ddrescuelog_cli.specs.Laws.{FilesStand}
use Rattle.ddrescuelog_cli.proofs.PromiseLemmas.{files_beside}
use Rattle.ddrescuelog_cli.proofs.laws.files_stand.Goals as goal

stand : FilesStand
stand t c d asks reads tells name =
    ap (λ (s : SiteState). files_in s name) (files_beside t d.between d.says)
    ∙ ((d.asked_for c asks).leaves.stands (inl reads) tells).0 name

pub returns : goal.returns
returns c = stand
