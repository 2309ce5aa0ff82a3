-- No option so far is in conflict.
use Rattle.std.proofs.Common.{◌≡◌, drop}
use Rattle.ddrescue_words.specs.Asking.{sample_conflict}
use Rattle.ddrescue_words.proofs.command.sample_conflict.Given as goal

abbrev pub invariant-loop-item : goal.invariant-loop-item
invariant-loop-item l = sample_conflict l.items ≡ sample_conflict (drop l.item-index l.items)
