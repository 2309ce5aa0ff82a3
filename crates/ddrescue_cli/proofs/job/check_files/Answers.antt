use Rattle.ddrescue_words.specs.Asking.{told_by}
use Rattle.ddrescue_cli.specs.Aims.{task_for}
use Rattle.ddrescue_cli.proofs.MadeLemmas.{unchecked_said}
use Rattle.ddrescue_cli.proofs.TaskLemmas.{files_for, quiet_for, is_checked_for}
use Rattle.ddrescue_cli.proofs.job.check_files.Goals as goal

pub returns-in-Ok-clause-job : goal.returns-in-Ok-clause-job
returns-in-Ok-clause-job c =
    is_checked_for c.args.words.now c.args.aim c.in-Ok.checked (told_by c.args.command) c.requires c.in-Ok.ensures.command
    c.in-Ok.ensures.names c.in-Ok.ensures.heading c.in-Ok.ensures.different c.in-Ok.ensures.heard

pub returns-in-Err-clause-refused : goal.returns-in-Err-clause-refused
returns-in-Err-clause-refused c = λ w none.
    unchecked_said c.args.words.now (task_for c.args.aim (told_by c.args.command)) (told_by c.args.command) _ _ w c.requires
    (files_for c.args.aim (told_by c.args.command)) (quiet_for c.args.aim (told_by c.args.command))
    c.in-Err.ensures.refused none
