-- The shape of a map is that of its one reading.
use Rattle.std.proofs.Common.{length, ap, ◌∙◌}
use Rattle.mapfile_text.proofs.OneReading.{has_one_reading}
use Rattle.mapfile_reader.specs.Laws.{ShapeIsOfReading}

pub shape_is_of_reading : ShapeIsOfReading
shape_is_of_reading text mode shape state first listed statuses is reads =
    let same = has_one_reading text mode shape.state state shape.first first shape.listed listed is.statuses statuses is.reads reads in
    (same.state_is, same.first_is, same.listed_is, is.end ∙ ap length same.statuses_is)
