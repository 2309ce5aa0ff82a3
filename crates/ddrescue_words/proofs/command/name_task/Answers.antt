-- The files' options are those that were given.
use Rattle.ddrescue_words.specs.Asking.{task_by, told_by}
use Rattle.ddrescue_words.proofs.CommandLemmas.{named_task}
use Rattle.ddrescue_words.proofs.command.name_task.Goals as goal

pub returns-in_ok-name_files-in-None-clause-asked : goal.returns-in_ok-name_files-in-None-clause-asked
returns-in_ok-name_files-in-None-clause-asked c =
    named_task c.args.words.now c.args.reading.now.items.items c.args.options c.args.options.sample
    c.args.reading.now.operands.items (told_by c.in_ok-name_files-in-None.field-0) (task_by c.mode_task.result)
    c.in-None.is c.in_ok-name_files-in-None.ensures.named c.mode_task.ensures
