use Rattle.std.proofs.Common.{◌∙◌, ap, refl}
use Rattle.memory_site.specs.Places.{files_of}
use Rattle.memory_site.proofs.PlaceLemmas.{files_of-push}
use Rattle.memory_site.proofs.memory.places.place_of.Goals as goal

pub returns-clause-files : goal.returns-clause-files
returns-clause-files c = ap files_of c.in_ok-push.ensures.items ∙ files_of-push c.args.places.now.items _ refl
