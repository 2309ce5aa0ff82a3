use Rattle.std.proofs.Common.{refl}
use Rattle.ddrescueshow_cli.proofs.laws.a_small_map_is_drawn.Goals as goal

pub returns : goal.returns
returns c = (refl, refl, refl, refl, refl, refl, refl)
