use Rattle.std.proofs.Common.{◌≡◌, ◌+◌, ◌≤◌, ◌++◌, drop, reverse, vec_len, vec_capacity}
use Rattle.paged_blocks.proofs.entry_list.pass.Given as goal

abbrev pub invariant-loop-i : goal.invariant-loop-i
invariant-loop-i l = record {
  above : l.n ≤ l.i;
  items : l.to.items ≡ l.initial.to.items ++ reverse (drop l.i l.from.items);
  len : vec_len l.to + l.i ≡ vec_len l.initial.to + vec_len l.from;
  room : vec_capacity l.initial.to ≤ vec_capacity l.to;
}
