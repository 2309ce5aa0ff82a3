use Rattle.std.proofs.Common.{◌≡◌, ℕ, ◌+◌, ◌≤◌, take, vec_len, vec_capacity}
use Rattle.paged_blocks.specs.Paging.{naming, times_free}
use Rattle.paged_blocks.proofs.marks.refill.release.Given as goal

abbrev pub invariant-loop-k : goal.invariant-loop-k
invariant-loop-k l = record {
  numbers : (n : ℕ) → times_free n l.free.items + naming n (take l.first l.entries.items)
      ≡ times_free n l.initial.free.items + naming n (take l.k l.entries.items);
  len : vec_len l.free + l.first ≡ vec_len l.initial.free + l.k;
  capacity : vec_capacity l.initial.free ≤ vec_capacity l.free;
}
