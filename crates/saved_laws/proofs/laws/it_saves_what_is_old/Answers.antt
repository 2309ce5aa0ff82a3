use Rattle.saved_laws.proofs.ExampleLemmas.{saves_what_is_old}
use Rattle.saved_laws.proofs.laws.it_saves_what_is_old.Goals as goal

pub returns : goal.returns
returns c = saves_what_is_old
