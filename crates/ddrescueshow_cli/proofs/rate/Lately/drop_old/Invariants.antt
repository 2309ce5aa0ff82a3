-- The lines become fewer, and none that is needed is dropped.
use Rattle.std.proofs.Common.{◌≡◌, length}
use Rattle.ddrescueshow_cli.specs.Rate.{of_ten_seconds}
use Rattle.ddrescueshow_cli.proofs.rate.Lately.drop_old.Given as goal

abbrev pub invariant-loop-now : goal.invariant-loop-now
invariant-loop-now l = of_ten_seconds l.now l.self ≡ of_ten_seconds l.fn.now l.fn.self

abbrev pub decreases-loop-now : goal.decreases-loop-now
decreases-loop-now l = length l.self
