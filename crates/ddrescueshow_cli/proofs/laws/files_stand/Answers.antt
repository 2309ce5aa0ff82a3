use Rattle.ddrescueshow_cli.proofs.StandLemmas.{all_files_stand}
use Rattle.ddrescueshow_cli.proofs.laws.files_stand.Goals as goal

pub returns : goal.returns
returns c = all_files_stand
