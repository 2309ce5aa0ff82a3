use Rattle.ddrescue_laws.proofs.SweepBefore.{refused_generate_leaves}
use Rattle.ddrescue_laws.proofs.laws.a_refused_generating_leaves.Goals as goal

pub returns : goal.returns
returns c = refused_generate_leaves
