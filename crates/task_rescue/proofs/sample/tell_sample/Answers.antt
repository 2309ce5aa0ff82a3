use Rattle.task_rescue.proofs.SampledLemmas.{told_done}
use Rattle.task_rescue.proofs.sample.tell_sample.Goals as goal

pub returns : goal.returns
returns g c = told_done c.args.kib c.args.heard _ c.in-Ok.line.items _ _ c.in-Ok.ensures c.say_line.ensures
