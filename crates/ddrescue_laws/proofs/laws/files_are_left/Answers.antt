use Rattle.ddrescue_laws.proofs.LeftAfterLemmas.{files_are_left}
use Rattle.ddrescue_laws.proofs.laws.files_are_left.Goals as goal

pub returns : goal.returns
returns c = files_are_left
