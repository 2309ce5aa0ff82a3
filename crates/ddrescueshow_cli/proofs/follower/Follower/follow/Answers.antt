-- The last line comes after all that was taken.
use Rattle.std.proofs.Common.{inl}
use Rattle.ddrescueshow_cli.proofs.FollowLemmas.{alone_at_end, goes_to_end}
use Rattle.ddrescueshow_cli.proofs.follower.Follower.follow.Goals as goal

pub finish-requires : goal.finish-requires
finish-requires g c = c.in-Ok.ensures.goes.goes.unfinished

pub returns-in-Ok-finish-clause-cause : goal.returns-in-Ok-finish-clause-cause
returns-in-Ok-finish-clause-cause g c =
    alone_at_end _ _ (g.I.Feed.state c.args.feed.now) _ _ _ c.in-Ok.ensures.takes c.in-Ok-finish.ensures.done

pub returns-in-Ok-finish-clause-goes : goal.returns-in-Ok-finish-clause-goes
returns-in-Ok-finish-clause-goes g c =
    goes_to_end _ (g.I.Feed.state c.args.feed.now) _ c.args.self.now _ (g.P.Console.state c.args.console.now) _ _
    c.in-Ok.ensures.goes c.in-Ok-finish.ensures.done

pub returns-in-Err-finish-clause-cause : goal.returns-in-Err-finish-clause-cause
returns-in-Err-finish-clause-cause g c =
    alone_at_end _ _ (g.I.Feed.state c.args.feed.now) _ _ _ c.in-Ok.ensures.takes c.in-Err-finish.ensures.stops

pub returns-in-Err-finish-clause-goes : goal.returns-in-Err-finish-clause-goes
returns-in-Err-finish-clause-goes g c =
    goes_to_end _ (g.I.Feed.state c.args.feed.now) _ c.args.self.now _ (g.P.Console.state c.args.console.now) _ _
    c.in-Ok.ensures.goes c.in-Err-finish.ensures.stops

pub returns-in-Err-clause-goes : goal.returns-in-Err-clause-goes
returns-in-Err-clause-goes g c = inl c.in-Err.ensures.breaks
