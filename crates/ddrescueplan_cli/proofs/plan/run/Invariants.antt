-- The console's own state is that on which the source is made.
use Rattle.std.proofs.Common.{true}
use Rattle.ddrescueplan_cli.proofs.plan.run.Given as goal

abbrev pub ghosts-put_plan : goal.ghosts-put_plan
ghosts-put_plan g a = record { is_known = true; start = g.P.Console.state a.console.now }
