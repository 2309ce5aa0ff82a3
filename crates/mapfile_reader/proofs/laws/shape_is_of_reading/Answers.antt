use Rattle.mapfile_reader.proofs.ShapeLemmas.{shape_is_of_reading}
use Rattle.mapfile_reader.proofs.laws.shape_is_of_reading.Goals as goal

pub returns : goal.returns
returns c = shape_is_of_reading
