-- No entry so far is extended.
use Rattle.std.proofs.Common.{◌≡◌, drop, find}
use Rattle.partition_domain.specs.Table.{is_extended}
use Rattle.partition_domain.proofs.find.find_extended.Given as goal

abbrev pub invariant-loop-entry : goal.invariant-loop-entry
invariant-loop-entry l = find is_extended l.table ≡ find is_extended (drop l.entry-index l.table)
