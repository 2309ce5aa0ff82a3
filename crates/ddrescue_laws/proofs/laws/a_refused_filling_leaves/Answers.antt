use Rattle.ddrescue_laws.proofs.SweepBefore.{refused_fill_leaves}
use Rattle.ddrescue_laws.proofs.laws.a_refused_filling_leaves.Goals as goal

pub returns : goal.returns
returns c = refused_fill_leaves
