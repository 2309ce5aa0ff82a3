use Rattle.ddrescue_cli.proofs.TaskLemmas.{asked_task}
use Rattle.ddrescue_cli.proofs.job.check_task.Goals as goal

pub returns-in-Sample-clause-job : goal.returns-in-Sample-clause-job
returns-in-Sample-clause-job c = asked_task _ _ _ c.in-Sample.is c.requires
