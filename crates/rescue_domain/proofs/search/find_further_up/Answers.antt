use Rattle.std.proofs.Common.{arith}
use Rattle.std.proofs.lemmas.Option.{slice_get_within}
use Rattle.rescue_domain.proofs.search.find_further_up.Goals as goal

pub loop-part-smaller : goal.loop-part-smaller
loop-part-smaller g c =
    omega (
      arith,
      c.in-Some.ensures.first.after,
      c.in-Some.ensures.range.begun,
      slice_get_within (g.T.Tiles.statuses c.args.tiles.now) c.in_ok-found.found.from c.args.status c.in_ok-found.ensures.first.holds,
    )
