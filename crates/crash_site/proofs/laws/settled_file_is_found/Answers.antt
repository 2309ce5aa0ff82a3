use Rattle.crash_site.proofs.LawLemmas.{settled_file}
use Rattle.crash_site.proofs.laws.settled_file_is_found.Goals as goal

pub returns : goal.returns
returns c = settled_file
