-- The block of the first wanted position, or none.
use Rattle.std.proofs.Common.{◌<◌, ◌^◌, List, length, arith}
use Rattle.block_list.specs.declared.status.Status.{Status}
use Rattle.rescue_domain.specs.Parts.{covers}
use Rattle.map_algebra.specs.Listing.{ListingState}
use Rattle.map_algebra.proofs.ListedLemmas.{next_listed, no_more_listed}
use Rattle.map_algebra.proofs.listing.Listing.next.Goals as goal

pub returns-in_err-found-clause-none : goal.returns-in_err-found-clause-none
returns-in_err-found-clause-none g c =
    let F : List Status = g.T.Tiles.statuses c.args.tiles.now in
    let i = c.self.inside in
    let t : ListingState = record { types = i.types; shape = i.shape; least = i.least } in
    let short : length F < 2 ^ 63 = omega (arith, c.end-end.ensures.end, c.end-end.ensures.short) in
    rw c.from_residual.ensures
    (no_more_listed t c.args.self.now (covers c.args.domain.now) F c.first_of-from.result c.self.view_is short
    (c.requires.from, c.requires.placed) c.first_of-from.ensures
    (λ x a l h. c.in_err-found.ensures.none x a (omega (arith, l, c.end-end.ensures.end)) h))

pub returns-clause-least : goal.returns-clause-least
returns-clause-least g c =
    let F : List Status = g.T.Tiles.statuses c.args.tiles.now in
    let i = c.self.inside in
    let t : ListingState = record { types = i.types; shape = i.shape; least = i.least } in
    let short : length F < 2 ^ 63 = omega (arith, c.end-end.ensures.end, c.end-end.ensures.short) in
    let within : c.in_ok-found.found < length F = omega (arith, c.end-end.ensures.end, c.in_ok-found.ensures.within) in
    next_listed t c.args.self.now (covers c.args.domain.now) F c.first_of-from.result c.in_ok-found.found
    c.self.view_is short (c.requires.from, c.requires.placed) c.first_of-from.ensures within c.in_ok-found.ensures.first
