use Rattle.map_algebra.proofs.CreatedLemmas.{created_have_blocks}
use Rattle.map_algebra.proofs.block_laws.a_created_map_has_its_blocks.Goals as goal

pub returns : goal.returns
returns c = created_have_blocks
