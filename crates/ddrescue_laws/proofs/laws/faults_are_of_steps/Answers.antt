use Rattle.ddrescue_laws.proofs.StepLemmas.{faults_are_of_steps}
use Rattle.ddrescue_laws.proofs.laws.faults_are_of_steps.Goals as goal

pub returns : goal.returns
returns c = faults_are_of_steps
