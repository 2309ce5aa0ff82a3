use Rattle.std.proofs.Common.{arith}
use Rattle.paged_blocks.proofs.RewriteLemmas.{room_for_mark, spare_after}
use Rattle.paged_blocks.proofs.page_tree.Pages.set.Goals as goal

pub overwrite-requires-clause-spare : goal.overwrite-requires-clause-spare
overwrite-requires-clause-spare c = room_for_mark _ _ _ (rw (← c.self.view_is) at c.requires.spare)

pub returns-clause-spare : goal.returns-clause-spare
returns-clause-spare c =
    let room = c.overwrite.ensures.room in
    rw (← c.self.view_is) (spare_after _ _ _ _ _ _ _ _ 2 room.pages room.entries c.overwrite.ensures.few
    c.overwrite.ensures.gain.two (omega arith))
