use Rattle.ddrescueshow_cli.proofs.FigureLemmas.{all_finished_at_100}
use Rattle.ddrescueshow_cli.proofs.laws.all_is_finished_at_100.Goals as goal

pub returns : goal.returns
returns c = all_finished_at_100
