use Rattle.std.proofs.Common.{◌≡◌, ◌-◌, ◌∙◌, min, rules, ap}
use Rattle.rescue_domain.specs.Testing.{finished_front}
use Rattle.rescue_domain.proofs.TestingLemmas.{front_of_range}
use Rattle.rescue_domain.proofs.test_source.count_finished.Goals as goal

pub returns-in-Some : goal.returns-in-Some
returns-in-Some g c =
    let front = front_of_range (g.T.Tiles.statuses c.args.tiles.now) c.in-Some.range.from c.in-Some.range.to c.args.count c.in-Some.ensures.range in
    let e : c.min.result ≡ min c.args.count (c.in-Some.range.to - c.in-Some.range.from) = search rules in
    e ∙ front ∙ ap (λ p. finished_front (g.T.Tiles.statuses c.args.tiles.now) p c.args.count) c.if-range-pos.true
