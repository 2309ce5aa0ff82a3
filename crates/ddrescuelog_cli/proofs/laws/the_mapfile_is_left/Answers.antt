use Rattle.ddrescuelog_cli.proofs.LeftLemmas.{mapfile_is_left}
use Rattle.ddrescuelog_cli.proofs.laws.the_mapfile_is_left.Goals as goal

pub returns : goal.returns
returns c = mapfile_is_left
