use Rattle.std.proofs.Common.{length, ap, ◌∙◌}
use Rattle.block_list.specs.declared.areas.Count.{Count}
use Rattle.rescue_domain.specs.Parts.{covers}
use Rattle.rescue_rules.specs.Counts.{has_failed, has_finished, passing}
use Rattle.rescue_core.specs.Counting.{counts_within}
use Rattle.rescue_core.proofs.CountsLemmas.{failed_counted, finished_counted, counts_are, counts_below}
use Rattle.task_rescue.proofs.sample.counts_in.Goals as goal

pub returns : goal.returns
returns g c =
    let domain = covers c.args.domain.now in
    let map = g.T.Tiles.statuses c.args.tiles.now in
    let finished = passing has_finished domain map in
    let failed = passing has_failed domain map in
    let end = c.end-end.result in
    counts_are _ (counts_within finished failed 0 end)
    (ap (λ (n : Count). n.bytes) (c.count_statuses-finished.ensures ∙ finished_counted domain map 0 end))
    (c.count_statuses-failed.ensures ∙ failed_counted domain map 0 end)
    ∙ ap (counts_within finished failed 0) c.end-end.ensures.end ∙ counts_below finished failed (length map)
