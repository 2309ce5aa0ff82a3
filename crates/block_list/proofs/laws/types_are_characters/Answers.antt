use Rattle.block_list.proofs.TypeLemmas.{types_are_characters}
use Rattle.block_list.proofs.laws.types_are_characters.Goals as goal

pub returns : goal.returns
returns c = types_are_characters
