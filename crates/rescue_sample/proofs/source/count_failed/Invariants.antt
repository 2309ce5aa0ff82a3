use Rattle.std.proofs.Common.{◌≡◌, take}
use Rattle.std.specs.Prelude.{count_by}
use Rattle.rescue_sample.specs.Sample.{entry_failed}
use Rattle.rescue_sample.proofs.source.count_failed.Given as goal

abbrev pub invariant-loop-entry : goal.invariant-loop-entry
invariant-loop-entry l = l.failed ≡ count_by entry_failed (take l.entry-index l.entries)
