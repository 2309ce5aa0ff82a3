-- At first no byte of a line came.
use Rattle.ddrescueshow_cli.proofs.FollowLemmas.{cause_of, goes_first, none_open}
use Rattle.ddrescueshow_cli.proofs.follow.answer.Goals as goal

pub follow-requires : goal.follow-requires
follow-requires g c = none_open _ c.new-follower.ensures.line

pub returns-clause-goes : goal.returns-clause-goes
returns-clause-goes g c =
    goes_first c.args.terminal _ (g.I.Feed.state c.args.feed.now) _ c.new-follower.result
    (g.P.Console.state c.args.console.now) _ c.new-follower.ensures.line c.new-follower.ensures.known
    c.new-follower.ensures.terminal c.follow.ensures.goes

pub returns-clause-cause : goal.returns-clause-cause
returns-clause-cause g c =
    cause_of _ _ (g.I.Feed.state c.args.feed.now) _ _ _ c.follow.ensures.cause c.follow.ensures.goes
