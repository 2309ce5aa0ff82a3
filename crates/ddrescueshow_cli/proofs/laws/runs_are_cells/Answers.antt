use Rattle.ddrescueshow_cli.proofs.RunLemmas.{runs_are_cells}
use Rattle.ddrescueshow_cli.proofs.laws.runs_are_cells.Goals as goal

pub returns : goal.returns
returns c = runs_are_cells
