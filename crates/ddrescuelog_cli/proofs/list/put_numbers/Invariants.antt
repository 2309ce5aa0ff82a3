-- The numbers in front of the least that may come were put, but for those in the buffer.
use Rattle.std.proofs.Common.{◌+◌, ◌-◌, length}
use Rattle.rescue_domain.specs.Parts.{covers}
use Rattle.map_algebra.specs.Blocks.{block_of}
use Rattle.map_algebra.specs.Listing.{wanted_of}
use Rattle.ddrescuelog_cli.proofs.NumberLemmas.{NumbersPut}
use Rattle.ddrescuelog_cli.proofs.list.put_numbers.Given as goal

abbrev pub invariant-numbers : goal.invariant-numbers
invariant-numbers g l =
    NumbersPut (wanted_of l.fn.listing (covers l.domain) (g.T.Tiles.statuses l.tiles)) l.fn.listing l.listing
    l.buffer.items (g.P.Console.state l.fn.console) (g.P.Console.state l.console)

abbrev pub decreases-numbers : goal.decreases-numbers
decreases-numbers g l = block_of l.fn.listing.shape (length (g.T.Tiles.statuses l.tiles)) + 1 - l.listing.least
