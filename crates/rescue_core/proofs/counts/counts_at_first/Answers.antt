use Rattle.std.proofs.Common.{◌≡◌, ℕ, length, ap, ◌∙◌}
use Rattle.rescue_domain.specs.Parts.{covers}
use Rattle.rescue_rules.specs.Counts.{has_failed, has_finished, passing}
use Rattle.rescue_core.specs.Counting.{counts_within}
use Rattle.rescue_core.proofs.CountsLemmas.{counts_below}
use Rattle.rescue_core.proofs.counts.counts_at_first.Goals as goal

pub returns : goal.returns
returns g c =
    let finished = passing has_finished (covers c.args.domain.now) (g.T.Tiles.statuses c.args.tiles.now) in
    let failed = passing has_failed (covers c.args.domain.now) (g.T.Tiles.statuses c.args.tiles.now) in
    let top = length (g.T.Tiles.statuses c.args.tiles.now) in
    let to_end : counts_within finished failed 0 c.end.result ≡ counts_within finished failed 0 top
    = ap (λ (n : ℕ). counts_within finished failed 0 n) c.end.ensures.end in
    c.counts_between.ensures ∙ to_end ∙ counts_below finished failed top
