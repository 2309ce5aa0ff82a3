-- The words so far say nothing.
use Rattle.std.proofs.Common.{◌≡◌, drop}
use Rattle.ddrescueshow_words.specs.Progress.{asks_progress}
use Rattle.ddrescueshow_words.proofs.progress.asks_progress.Given as goal

abbrev pub invariant-loop-i : goal.invariant-loop-i
invariant-loop-i l = asks_progress (drop l.i l.words) ≡ asks_progress l.words
