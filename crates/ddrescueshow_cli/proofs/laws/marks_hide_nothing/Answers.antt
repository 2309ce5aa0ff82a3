use Rattle.ddrescueshow_cli.proofs.MarkLemmas.{marks_hide_nothing}
use Rattle.ddrescueshow_cli.proofs.laws.marks_hide_nothing.Goals as goal

pub returns : goal.returns
returns c = marks_hide_nothing
