use Rattle.std.proofs.Common.{◌≡◌, ap, arith, length}
use Rattle.std.proofs.lemmas.Option.{slice_get_within}
use Rattle.block_list.specs.Stretches.{stretches}
use Rattle.paged_blocks.specs.Paging.{flat}
use Rattle.paged_blocks.proofs.KeptLemmas.{stretches_of_paging}
use Rattle.paged_blocks.proofs.page_tree.Pages.find_forward.Goals as goal

pub returns-then-from-self-clause-cost : goal.returns-then-from-self-clause-cost
returns-then-from-self-clause-cost g c =
    let z : length (stretches c.args.self.now.statuses) ≡ length (flat c.self.inside.pages.items c.self.inside.entries.items) =
    rw (← c.self.view_is) (ap length (stretches_of_paging _ _ c.self.invariant.kept.paging)) in
    rw z (rw c.deref.ensures.value at c.first_with.ensures.cost)

pub returns-else-from-self-clause-none : goal.returns-else-from-self-clause-none
returns-else-from-self-clause-none g c = λ x l q.
    let z : c.self.inside.end ≡ length c.args.self.now.statuses = rw (← c.self.view_is) c.self.invariant.ends in
    omega (arith, slice_get_within c.args.self.now.statuses x c.args.status q)
