use Rattle.ddrescue_laws.proofs.SweepLeaves.{unbegun_generate_leaves}
use Rattle.ddrescue_laws.proofs.laws.a_generating_leaves_files_before_it_begins.Goals as goal

pub returns : goal.returns
returns c = unbegun_generate_leaves
