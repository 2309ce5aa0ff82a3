use Rattle.ddrescuelog_words.proofs.CommandLemmas.{one_mode_wanted}
use Rattle.ddrescuelog_words.proofs.laws.one_mode_is_wanted.Goals as goal

pub returns : goal.returns
returns c = one_mode_wanted
