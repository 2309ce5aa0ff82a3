use Rattle.std.proofs.Common.{ap, ◌∙◌, List}
use Rattle.block_list.specs.declared.block.Range.{Range}
use Rattle.block_list.specs.declared.status.Status.{Status}
use Rattle.rescue_domain.specs.Parts.{covers}
use Rattle.rescue_rules.specs.Counts.{counts_of}
use Rattle.task_rescue.proofs.SampledLemmas.{ran_to_end}
use Rattle.task_rescue.proofs.sample.count_run.Goals as goal

pub returns-then-is_done : goal.returns-then-is_done
returns-then-is_done g c =
    ran_to_end _ _ _ c.counts_in-counts.result c.in-Ok.ensures.ends.goes c.in-Ok.ensures.past
    (c.counts_in-counts.ensures
    ∙ ap (λ (d : List Range). counts_of (covers d) c.tiles.result.now.statuses) c.domain.ensures
    ∙ ap (λ (m : List Status). counts_of (covers c.in-Ok.finished.domain) m) c.tiles.ensures)
