use Rattle.std.proofs.Common.{ap, ◌∙◌}
use Rattle.block_list.specs.declared.areas.Count.{Count}
use Rattle.rescue_domain.specs.Parts.{covers}
use Rattle.rescue_rules.specs.Counts.{has_failed, has_finished, passing}
use Rattle.rescue_core.specs.Counting.{counts_within}
use Rattle.rescue_core.proofs.CountsLemmas.{failed_counted, finished_counted, counts_are}
use Rattle.rescue_core.proofs.counts.counts_between.Goals as goal

pub returns : goal.returns
returns g c =
    let domain = covers c.args.domain.now in
    let map = g.T.Tiles.statuses c.args.tiles.now in
    counts_are _
    (counts_within (passing has_finished domain map) (passing has_failed domain map) c.args.from c.args.to)
    (ap (λ (n : Count). n.bytes)
    (c.count_statuses-finished.ensures ∙ finished_counted domain map c.args.from c.args.to))
    (c.count_statuses-failed.ensures ∙ failed_counted domain map c.args.from c.args.to)
