use Rattle.rescue_phases.proofs.TurnLemmas.{went_on}
use Rattle.rescue_phases.proofs.laws.turns_join.Goals as goal

pub returns : goal.returns
returns c r q p o source site clock console front stays tells back =
    went_on r q p o.source source o.source' o.site site o.site' o.clock clock o.clock' o.console console
    o.console' front stays tells back
