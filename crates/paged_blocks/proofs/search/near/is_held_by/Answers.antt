use Rattle.std.proofs.Common.{◌<◌, length, arith}
use Rattle.std.proofs.lemmas.Bool.{ltb-true}
use Rattle.paged_blocks.proofs.PagingLemmas.{no_entry, held_there}
use Rattle.paged_blocks.proofs.search.near.is_held_by.Goals as goal

pub returns : goal.returns
returns c =
    let h : c.args.near.page < length c.args.entries.now.items = omega arith in
    λ t. held_there _ _ _ _ _ no_entry _ _ c.requires h (rw (c.at.ensures no_entry) at c.index-pages-at.is)
    c.block-block.ensures (omega arith) (ltb-true _ _ t)
