use Rattle.turn_laws.proofs.EndLemmas.{done_ends_well}
use Rattle.turn_laws.proofs.laws.a_done_run_ends_well.Goals as goal

pub returns : goal.returns
returns c = done_ends_well
