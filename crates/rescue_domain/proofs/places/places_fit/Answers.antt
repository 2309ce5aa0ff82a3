-- The last position that is asked for ends too far on.
use Rattle.rescue_domain.proofs.PlaceLemmas.{beyond_at}
use Rattle.rescue_domain.proofs.places.places_fit.Goals as goal

pub returns-else-last-pos-clause-beyond : goal.returns-else-last-pos-clause-beyond
returns-else-last-pos-clause-beyond c =
    λ over. beyond_at c.args.pos c.args.size c.args.end _ c.args.to c.end_of-last.ensures.below c.if-last-pos.false over
