use Rattle.rescue_rules.proofs.FinishLemmas.{finished_stands}
use Rattle.rescue_rules.proofs.laws.finished_stands.Goals as goal

pub returns : goal.returns
returns c = finished_stands
