use Rattle.ddrescueshow_cli.proofs.FollowLemmas.{all_lines_are_put}
use Rattle.ddrescueshow_cli.proofs.laws.all_lines_are_put.Goals as goal

pub returns : goal.returns
returns c = all_lines_are_put
