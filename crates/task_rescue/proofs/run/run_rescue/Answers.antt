use Rattle.mapfile_save.proofs.FillLemmas.{keeps_more}
use Rattle.task_rescue.proofs.StoppedLemmas.{stopped_cause, stopped_draft}
use Rattle.task_rescue.proofs.EndLemmas.{run_end, stopped_end}
use Rattle.task_rescue.proofs.run.run_rescue.Goals as goal

pub returns-in-Ok-clause-went : goal.returns-in-Ok-clause-went
returns-in-Ok-clause-went g c =
    run_end _ _ _ _ _ _ _ c.in-Ok.ensures.ends.goes.went c.in-Ok.ensures.past c.in-Ok.ensures.ends.objects.site.tells c.close.ensures.closes
    c.close.ensures.says

pub returns-in-Ok-clause-site : goal.returns-in-Ok-clause-site
returns-in-Ok-clause-site g c = keeps_more _ _ _ c.run_phases.ensures.ends.objects.site c.close.ensures.site

pub returns-in-Err-clause-went : goal.returns-in-Err-clause-went
returns-in-Err-clause-went g c =
    stopped_end _ _ _ _ _ _ _ _ c.in-Err.ensures.ends.halted c.in-Err.ensures.ends.objects.site.tells
    c.close-in-Err.ensures.closes c.close-in-Err.ensures.says

pub returns-in-Err-clause-cause : goal.returns-in-Err-clause-cause
returns-in-Err-clause-cause g c =
    stopped_cause _ _ _ _ _ _ c.in-Err.ensures.ends.halted c.in-Err.ensures.ends.objects c.close-in-Err.ensures.closes

pub returns-in-Err-clause-draft : goal.returns-in-Err-clause-draft
returns-in-Err-clause-draft g c =
    stopped_draft c.in-Err.stopped.stop c.in-Err.stopped.run _ _ _ c.in-Err.ensures.ends.halted.draft c.close-in-Err.ensures.closes

pub returns-in-Err-clause-site : goal.returns-in-Err-clause-site
returns-in-Err-clause-site g c = keeps_more _ _ _ c.run_phases.ensures.ends.objects.site c.close-in-Err.ensures.site
