use Rattle.saved_laws.proofs.ChainKept.{chain_keeps_failed}
use Rattle.saved_laws.proofs.laws.a_chain_keeps_what_failed.Goals as goal

pub returns : goal.returns
returns c = chain_keeps_failed
