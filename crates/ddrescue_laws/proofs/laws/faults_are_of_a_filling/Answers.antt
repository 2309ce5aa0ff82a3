use Rattle.ddrescue_laws.proofs.SweepFaults.{fill_faults_are_of_steps}
use Rattle.ddrescue_laws.proofs.laws.faults_are_of_a_filling.Goals as goal

pub returns : goal.returns
returns c = fill_faults_are_of_steps
