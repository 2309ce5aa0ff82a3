use Rattle.std.proofs.Common.{◌≡◌, ◌-◌, ap, arith, length}
use Rattle.std.proofs.lemmas.Option.{slice_get_within}
use Rattle.block_list.specs.Stretches.{stretches}
use Rattle.paged_blocks.specs.Paging.{flat}
use Rattle.paged_blocks.proofs.KeptLemmas.{stretches_of_paging}
use Rattle.paged_blocks.proofs.page_tree.Pages.find_backward.Goals as goal

pub returns-clause-cost : goal.returns-clause-cost
returns-clause-cost g c =
    let z : length (stretches c.args.self.now.statuses) ≡ length (flat c.self.inside.pages.items c.self.inside.entries.items) =
    rw (← c.self.view_is) (ap length (stretches_of_paging _ _ c.self.invariant.kept.paging)) in
    rw z (rw c.deref.ensures.value at c.last_with.ensures.cost)

pub returns-clause-there : goal.returns-clause-there
returns-clause-there g c = λ q.
    let z : c.self.inside.end ≡ length c.args.self.now.statuses = rw (← c.self.view_is) c.self.invariant.ends in
    let y : c.min-to.result ≡ c.args.before =
    omega (arith, c.min-to.ensures, slice_get_within c.args.self.now.statuses (c.args.before - 1) c.args.status q) in
    let t = rw (c.deref.ensures.value, y) at c.last_with.ensures.there in
    t (rw (← c.self.view_is) at q)
