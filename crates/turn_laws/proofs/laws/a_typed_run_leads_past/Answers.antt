use Rattle.turn_laws.proofs.PassLemmas.{typed_leads_past}
use Rattle.turn_laws.proofs.laws.a_typed_run_leads_past.Goals as goal

pub returns : goal.returns
returns c = typed_leads_past
