use Rattle.fill_generate.proofs.EndLemmas.{ends_are_told}
use Rattle.fill_generate.proofs.laws.ends_are_told.Goals as goal

pub returns : goal.returns
returns c = ends_are_told
