use Rattle.std.proofs.Common.{◌≡◌, slice_range}
use Rattle.block_list.specs.declared.status.Status.{Status}
use Rattle.block_pages.specs.Tally.{tallied}
use Rattle.block_pages.proofs.CountLemmas.{count_in}
use Rattle.block_pages.proofs.page_entry.tally_of.Given as goal

abbrev pub invariant-loop-i : goal.invariant-loop-i
invariant-loop-i l = (s : Status) → tallied l.tally s ≡ count_in s (slice_range l.page l.from l.i)
