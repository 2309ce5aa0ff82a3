use Rattle.ddrescuepart_cli.proofs.CompleteLemmas.{is_brought_unless}
use Rattle.ddrescuepart_cli.proofs.laws.nothing_else_is_answered.Goals as goal

pub returns : goal.returns
returns c = is_brought_unless
