use Rattle.rescue_phases.proofs.AlikeLemmas.{alike_go_alike}
use Rattle.rescue_phases.proofs.laws.alike_go_alike.Goals as goal

pub returns : goal.returns
returns c = alike_go_alike
