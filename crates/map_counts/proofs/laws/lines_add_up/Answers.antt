use Rattle.map_counts.proofs.SummaryLemmas.{lines_add_up}
use Rattle.map_counts.proofs.laws.lines_add_up.Goals as goal

pub returns : goal.returns
returns c = lines_add_up
