use Rattle.rescue_domain.specs.Parts.{covers}
use Rattle.ddrescueshow_cli.proofs.FigureLemmas.{rescued_part}
use Rattle.ddrescueshow_cli.proofs.picture.draw.Goals as goal

pub add_head-requires-clause-part : goal.add_head-requires-clause-part
add_head-requires-clause-part g c =
    let s = c.args.subject.now in
    rw c.of-summary.ensures (rescued_part (covers s.domain.now) (g.T.Tiles.statuses s.tiles.now))
