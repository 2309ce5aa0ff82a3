use Rattle.ddrescue_laws.proofs.SweepLeaves.{unbegun_fill_leaves}
use Rattle.ddrescue_laws.proofs.laws.a_filling_leaves_files_before_it_begins.Goals as goal

pub returns : goal.returns
returns c = unbegun_fill_leaves
