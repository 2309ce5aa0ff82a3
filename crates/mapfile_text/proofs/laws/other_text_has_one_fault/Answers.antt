use Rattle.mapfile_text.proofs.OneFault.{has_one_fault}
use Rattle.mapfile_text.proofs.laws.other_text_has_one_fault.Goals as goal

pub returns : goal.returns
returns c = has_one_fault
