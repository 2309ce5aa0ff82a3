use Rattle.ddrescueverify_cli.proofs.JudgeLemmas.{looks_within}
use Rattle.ddrescueverify_cli.proofs.laws.looks_are_within.Goals as goal

pub returns : goal.returns
returns c = looks_within
