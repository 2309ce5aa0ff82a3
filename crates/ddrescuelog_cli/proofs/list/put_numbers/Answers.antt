-- Each number that comes goes after those that were put.
use Rattle.rescue_domain.specs.Parts.{covers}
use Rattle.map_algebra.specs.Listing.{wanted_of}
use Rattle.ddrescuelog_cli.proofs.NumberLemmas.{none_put, next_of, none_of, fewer_left, number_put, numbers_put, number_broke}
use Rattle.ddrescuelog_cli.proofs.list.put_numbers.Goals as goal

pub numbers-init : goal.numbers-init
numbers-init g c = none_put _ _ _ _ c.requires.begin c.new-buffer.ensures

pub numbers-smaller : goal.numbers-smaller
numbers-smaller g c =
    fewer_left (wanted_of c.args.listing.now (covers c.args.domain.now) (g.T.Tiles.statuses c.args.tiles.now)) _ _
    c.in-Some.number (next_of _ _ _ _ _ _ _ _ c.numbers.invariant c.in-Some.ensures.least) c.in-Some.ensures.after

pub numbers-preserved : goal.numbers-preserved
numbers-preserved g c =
    number_put _ _ _ _ _ _ c.in-Some.number _ _ _ c.numbers.invariant
    (next_of _ _ _ _ _ _ _ _ c.numbers.invariant c.in-Some.ensures.least) c.in-Some.ensures.after
    (rw (← c.make_number_line-line.ensures) (rw (← c.as_slice.ensures.value) c.in-Ok.ensures.added))

pub returns : goal.returns
returns g c =
    numbers_put _ _ _ _ _ _ _ _ c.numbers.invariant
    (none_of _ _ _ _ _ _ _ c.numbers.invariant c.in_default.ensures.none) c.put_rest.ensures

pub returns-in_default-add_line : goal.returns-in_default-add_line
returns-in_default-add_line g c =
    number_broke _ _ _ _ _ _ _ c.numbers.invariant c.in_default-add_line.ensures.fault
