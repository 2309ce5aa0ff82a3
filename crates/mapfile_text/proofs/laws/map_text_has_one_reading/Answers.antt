use Rattle.mapfile_text.proofs.OneReading.{has_one_reading}
use Rattle.mapfile_text.proofs.laws.map_text_has_one_reading.Goals as goal

pub returns : goal.returns
returns c = has_one_reading
