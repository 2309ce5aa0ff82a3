use Rattle.ddrescueshow_cli.proofs.CellLemmas.{cells_tile}
use Rattle.ddrescueshow_cli.proofs.laws.cells_tile_the_picture.Goals as goal

pub returns : goal.returns
returns c = cells_tile
