use Rattle.run_laws.proofs.OnceLemmas.{copying_asks_once}
use Rattle.run_laws.proofs.laws.copying_asks_once.Goals as goal

pub returns : goal.returns
returns c = copying_asks_once
