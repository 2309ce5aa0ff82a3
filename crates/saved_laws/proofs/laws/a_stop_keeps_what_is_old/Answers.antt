use Rattle.saved_laws.proofs.ExampleStops.{stop_keeps_what_is_old}
use Rattle.saved_laws.proofs.laws.a_stop_keeps_what_is_old.Goals as goal

pub returns : goal.returns
returns c = stop_keeps_what_is_old
