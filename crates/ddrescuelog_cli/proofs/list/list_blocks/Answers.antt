-- What was put, by the answer.
use Rattle.rescue_domain.specs.Parts.{covers}
use Rattle.ddrescuelog_cli.proofs.NumberLemmas.{listed_as}
use Rattle.ddrescuelog_cli.proofs.list.list_blocks.Goals as goal

pub returns-clause-put : goal.returns-clause-put
returns-clause-put g c =
    listed_as c.args.options.now c.args.types c.unwrap_or-to.result c.begin-listing.result
    (covers c.args.loaded.now.domain) c.args.loaded.now.tiles.statuses c.put_numbers.result _ _ _
    c.begin-listing.ensures c.unwrap_or-to.ensures c.printed.ensures
    c.put_numbers.ensures
