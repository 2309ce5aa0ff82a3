use Rattle.rescue_phases.proofs.TurnLemmas.{went_up_to_on}
use Rattle.rescue_phases.proofs.laws.stopped_turns_join.Goals as goal

pub returns : goal.returns
returns c stop r q p o source site clock console front stays tells back =
    went_up_to_on stop r q p o.source source o.source' o.site site o.site' o.clock clock o.clock' o.console console
    o.console' front stays tells back
