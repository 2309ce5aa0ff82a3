-- What was sorted ascends.
use Rattle.std.proofs.Common.{ℕ}
use Rattle.std.proofs.lemmas.List.Sorted.{IsNonDecreasingBy-from_sort}
use Rattle.map_algebra.proofs.create.sorted.Goals as goal

pub returns-clause-order : goal.returns-clause-order
returns-clause-order c =
    IsNonDecreasingBy-from_sort (λ (k : ℕ). k) c.sort_unstable.new.self.items c.sort_unstable.ensures.sorted
