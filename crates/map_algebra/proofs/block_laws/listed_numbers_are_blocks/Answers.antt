use Rattle.map_algebra.proofs.ListedLemmas.{listed_are, stands_in_one}
use Rattle.map_algebra.proofs.ListingLemmas.{listings_go_on}
use Rattle.map_algebra.proofs.block_laws.listed_numbers_are_blocks.Goals as goal

pub returns : goal.returns
returns c = record { listed = listed_are; in_order = listings_go_on; alone = stands_in_one }
