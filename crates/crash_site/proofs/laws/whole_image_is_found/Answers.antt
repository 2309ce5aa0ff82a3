use Rattle.crash_site.proofs.LostLemmas.{whole_is_found}
use Rattle.crash_site.proofs.laws.whole_image_is_found.Goals as goal

pub returns : goal.returns
returns c = whole_is_found
