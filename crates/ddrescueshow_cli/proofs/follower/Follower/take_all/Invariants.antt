-- Rounds were made so far, and no take failed.
use Rattle.std.proofs.Common.{◌≡◌, ℕ, true, List}
use Rattle.ddrescueshow_cli.specs.FollowSteps.{GoesRounds}
use Rattle.ddrescueshow_cli.proofs.follower.Follower.take_all.Given as goal

abbrev pub invariant-loop : goal.invariant-loop
invariant-loop g l = record {
  faults : (g.I.Feed.state l.feed).faults ≡ (g.I.Feed.state l.fn.feed).faults;
  goes : GoesRounds (g.I.Feed.state l.fn.feed) (g.I.Feed.state l.feed) l.fn.self l.self
      (g.P.Console.state l.fn.console) (g.P.Console.state l.console);
}
