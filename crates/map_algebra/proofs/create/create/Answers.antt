-- The marks stand for the created map.
use Rattle.std.proofs.Common.{◌∙◌}
use Rattle.std.proofs.lemmas.Result.{IfOk-weaker}
use Rattle.rescue_domain.specs.Parts.{covers}
use Rattle.map_algebra.proofs.MarkLemmas.{created_is}
use Rattle.map_algebra.proofs.create.create.Goals as goal

pub returns : goal.returns
returns c =
    IfOk-weaker c.created.result _ _
    (λ map e. e ∙ created_is c.args.shape c.args.numbers.now (covers c.args.domain.now) c.args.listed c.args.rest c.args.end
    c.in_ok-marks.marks.statuses c.in_ok-marks.ensures)
    c.created.ensures
