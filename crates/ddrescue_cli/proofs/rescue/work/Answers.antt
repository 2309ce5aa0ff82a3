use Rattle.ddrescue_cli.proofs.MadeLemmas.{sample_said}
use Rattle.ddrescue_cli.proofs.TaskLemmas.{files_job, sample_job, is_checked, named_by_checked, never_sampled, never_twice}
use Rattle.ddrescue_cli.proofs.rescue.work.Goals as goal

pub work_on-requires-clause-checked : goal.work_on-requires-clause-checked
work_on-requires-clause-checked g c =
    is_checked _ _ _ (files_job c.args.words.now _ _ _ c.in-Ok-Files.field-0-is c.in-Ok-Files.ensures.job)

pub work_on-requires-clause-named : goal.work_on-requires-clause-named
work_on-requires-clause-named g c =
    named_by_checked _ _ _ (files_job c.args.words.now _ _ _ c.in-Ok-Files.field-0-is c.in-Ok-Files.ensures.job)

pub returns-in-Ok-Files-clause-said : goal.returns-in-Ok-Files-clause-said
returns-in-Ok-Files-clause-said g c =
    c.work_on.ensures.said c.args.words.now
    (files_job c.args.words.now _ _ _ c.in-Ok-Files.field-0-is c.in-Ok-Files.ensures.job)

pub returns-in-Ok-Files-clause-untouched : goal.returns-in-Ok-Files-clause-untouched
returns-in-Ok-Files-clause-untouched g c = λ fault refused.
    let is = files_job c.args.words.now _ _ _ c.in-Ok-Files.field-0-is c.in-Ok-Files.ensures.job in
    absurd (is.asked.only.accepted fault refused)

pub returns-in-Ok-Files-clause-unopened : goal.returns-in-Ok-Files-clause-unopened
returns-in-Ok-Files-clause-unopened g c = λ first second twice.
    absurd (never_twice _ _ _ (files_job c.args.words.now _ _ _ c.in-Ok-Files.field-0-is c.in-Ok-Files.ensures.job)
    first second twice)

pub returns-in-Ok-Files-clause-apart : goal.returns-in-Ok-Files-clause-apart
returns-in-Ok-Files-clause-apart g c = λ kib quiet asks.
    absurd (never_sampled _ _ _ (files_job c.args.words.now _ _ _ c.in-Ok-Files.field-0-is c.in-Ok-Files.ensures.job)
    kib quiet asks)

pub returns-in-Ok-Sample-clause-said : goal.returns-in-Ok-Sample-clause-said
returns-in-Ok-Sample-clause-said g c =
    sample_said c.args.words.now c.in-Ok-Sample.kib c.in-Ok-Sample.quiet _ _ _ _
    (sample_job c.args.words.now _ _ _ c.in-Ok-Sample.field-0-is c.in-Ok-Sample.ensures.job) c.tell_sample.ensures c.requires

pub returns-in-Ok-Sample-clause-untouched : goal.returns-in-Ok-Sample-clause-untouched
returns-in-Ok-Sample-clause-untouched g c = λ fault refused.
    let is = sample_job c.args.words.now _ _ _ c.in-Ok-Sample.field-0-is c.in-Ok-Sample.ensures.job in
    absurd (is.only.accepted fault refused)

pub returns-in-Err-clause-said : goal.returns-in-Err-clause-said
returns-in-Err-clause-said g c = c.in-Err.ensures.refused _ c.requires
