use Rattle.ddrescueverify_cli.proofs.CompleteLemmas.{read_once}
use Rattle.ddrescueverify_cli.proofs.laws.none_is_read_twice.Goals as goal

pub returns : goal.returns
returns c = read_once
