-- One put is all that is said.
use Rattle.std.proofs.Common.{refl}
use Rattle.ddrescueshow_cli.proofs.FollowLemmas.{put_whole, put_broken}
use Rattle.ddrescueshow_cli.proofs.follower.put.Goals as goal

pub returns-in-Ok-clause-whole : goal.returns-in-Ok-clause-whole
returns-in-Ok-clause-whole g c =
    put_whole c.args.text.now _ (g.P.Console.state c.args.console.now) _ c.in-Ok.ensures

pub returns-in-Err-clause-broken : goal.returns-in-Err-clause-broken
returns-in-Err-clause-broken g c =
    (refl, put_broken c.args.text.now _ (g.P.Console.state c.args.console.now) _ c.in-Err.ensures)
