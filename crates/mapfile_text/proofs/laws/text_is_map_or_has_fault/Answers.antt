use Rattle.mapfile_text.proofs.MapOrFault.{is_map_or_has_fault}
use Rattle.mapfile_text.proofs.laws.text_is_map_or_has_fault.Goals as goal

pub returns : goal.returns
returns c = is_map_or_has_fault
