use Rattle.map_algebra.proofs.AreaLemmas.{areas_are_ranges}
use Rattle.map_algebra.proofs.laws.areas_are_ranges.Goals as goal

pub returns : goal.returns
returns c = areas_are_ranges
