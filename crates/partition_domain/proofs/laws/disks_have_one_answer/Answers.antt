use Rattle.partition_domain.proofs.VerdictLemmas.{has_one_answer}
use Rattle.partition_domain.proofs.laws.disks_have_one_answer.Goals as goal

pub returns : goal.returns
returns c = has_one_answer
