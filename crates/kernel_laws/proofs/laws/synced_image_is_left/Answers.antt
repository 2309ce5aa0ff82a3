use Rattle.kernel_laws.proofs.Saved.{synced}
use Rattle.kernel_laws.proofs.laws.synced_image_is_left.Goals as goal

pub returns : goal.returns
returns c = synced
