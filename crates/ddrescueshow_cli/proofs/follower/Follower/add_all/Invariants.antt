-- What came of the bytes so far was gone on with, and the rest is left.
use Rattle.std.proofs.Common.{◌≡◌, ◌++◌, ℕ, List, length}
use Rattle.ddrescueshow_cli.specs.FollowSteps.{GoesOn}
use Rattle.ddrescueshow_cli.proofs.follower.Follower.add_all.Given as goal

abbrev pub invariant-loop-rest : goal.invariant-loop-rest
invariant-loop-rest g l = record {
  came : List ℕ;
  split : came ++ l.rest ≡ l.fn.bytes;
  goes : GoesOn came l.fn.self l.self (g.P.Console.state l.fn.console) (g.P.Console.state l.console);
}

abbrev pub decreases-loop-rest : goal.decreases-loop-rest
decreases-loop-rest g l = length l.rest
