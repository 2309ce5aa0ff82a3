use Rattle.std.proofs.Common.{ap, arith}
use Rattle.rescue_rules.specs.declared.report.Counts.{Counts}
use Rattle.rescue_core.proofs.CountsLemmas.{IsEndOf, cut_is}
use Rattle.rescue_core.proofs.counts.counts_before.Goals as goal

pub returns : goal.returns
returns g c = λ new ends.
    let map = g.T.Tiles.statuses c.args.tiles.now in
    let gone = c.counts_between-gone.ensures in
    let top : IsEndOf c.args.live map c.end_of-top.result = record {
      within = c.end_of-top.ensures.within;
      before = c.end_of-top.ensures.before;
      past = c.end_of-top.ensures.past;
    } in
    cut_is c.args.live map c.args.end c.end_of-top.result c.args.counts _ new top ends
    (omega (arith, ap (λ (n : Counts). n.rescued) gone)) (omega (arith, ap (λ (n : Counts). n.failed.bytes) gone))
    (omega (arith, ap (λ (n : Counts). n.failed.areas) gone))
