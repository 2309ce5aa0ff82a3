use Rattle.std.proofs.Common.{rules}
use Rattle.file_source.proofs.RestLemmas.{rest_joined}
use Rattle.file_source.proofs.file.give.Goals as goal
use Rattle.file_source.proofs.file.give.Goals.{in_default-via-in-Ok+else-count-buf, in_default-via-in-Err-1}

pub returns-in_default-clause-came : goal.returns-in_default-clause-came
returns-in_default-clause-came g c =
    rest_joined c.give_rest.result c.in_default-1.first _ _ _ c.read.new.buf _ (elim c.in_default-1.branch [
      | in_default-via-in-Ok+else-count-buf w ↦ search rules
      | in_default-via-in-Err-1 w ↦ search rules
    ]) c.give_rest.ensures.more c.give_rest.ensures.front c.give_rest.ensures.came
