use Rattle.rescue_rules.specs.Preparation.{prepared_status}
use Rattle.map_preparation.proofs.PrepareLemmas.{change_is_made}
use Rattle.map_preparation.proofs.prepare.preparation_goes_by_position.Goals as goal

pub returns : goal.returns
returns c = λ domain try_again retrim map. change_is_made domain (prepared_status try_again retrim) map
