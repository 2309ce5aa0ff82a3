use Rattle.ddrescue_laws.proofs.SweepFaults.{generate_faults_are_of_steps}
use Rattle.ddrescue_laws.proofs.laws.faults_are_of_a_generating.Goals as goal

pub returns : goal.returns
returns c = generate_faults_are_of_steps
