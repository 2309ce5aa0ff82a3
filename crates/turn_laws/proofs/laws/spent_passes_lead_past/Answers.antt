use Rattle.turn_laws.proofs.PassLemmas.{spent_leads_past}
use Rattle.turn_laws.proofs.laws.spent_passes_lead_past.Goals as goal

pub returns : goal.returns
returns c = spent_leads_past
