use Rattle.ddrescueshow_cli.proofs.CellLemmas.{cells_least}
use Rattle.ddrescueshow_cli.proofs.laws.cells_are_least.Goals as goal

pub returns : goal.returns
returns c = cells_least
