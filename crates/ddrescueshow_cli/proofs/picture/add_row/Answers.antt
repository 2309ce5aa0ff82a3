-- A row isn't empty.
use Rattle.std.proofs.Common.{◌*◌, ◌<◌, arith}
use Rattle.ddrescueshow_cli.specs.Cells.{cells_in}
use Rattle.ddrescueshow_cli.proofs.SizeLemmas.{begins_before}
use Rattle.ddrescueshow_cli.proofs.picture.add_row.Goals as goal

pub add_runs-requires-clause-some : goal.add_runs-requires-clause-some
add_runs-requires-clause-some g c =
    let f = c.args.subject.now.frame in
    let before : c.args.row * f.width < cells_in f
    = begins_before (cells_in f) f.width c.args.row c.requires.frame.width c.requires.within in
    omega (arith, before, c.requires.frame.width, c.cells_of_row-count.ensures)
