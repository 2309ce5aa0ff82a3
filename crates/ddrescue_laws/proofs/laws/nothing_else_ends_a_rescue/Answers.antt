use Rattle.ddrescue_laws.proofs.CompleteLemmas.{is_done_unless}
use Rattle.ddrescue_laws.proofs.laws.nothing_else_ends_a_rescue.Goals as goal

pub returns : goal.returns
returns c = is_done_unless
