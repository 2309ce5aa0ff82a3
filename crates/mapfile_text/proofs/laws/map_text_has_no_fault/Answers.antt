use Rattle.mapfile_text.proofs.OneFault.{map_has_no_fault}
use Rattle.mapfile_text.proofs.laws.map_text_has_no_fault.Goals as goal

pub returns : goal.returns
returns c = map_has_no_fault
