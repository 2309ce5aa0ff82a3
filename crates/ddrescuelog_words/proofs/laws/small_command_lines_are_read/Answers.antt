-- By computing.
use Rattle.std.proofs.Common.{refl}
use Rattle.ddrescuelog_words.proofs.laws.small_command_lines_are_read.Goals as goal

pub returns : goal.returns
returns c = record { modes = (refl, refl, refl); last = (refl, refl); block = (refl, refl); end = (refl, refl) }
