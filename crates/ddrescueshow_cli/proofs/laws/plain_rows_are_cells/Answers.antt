use Rattle.ddrescueshow_cli.proofs.RunLemmas.{plain_rows_are_cells}
use Rattle.ddrescueshow_cli.proofs.laws.plain_rows_are_cells.Goals as goal

pub returns : goal.returns
returns c = plain_rows_are_cells
