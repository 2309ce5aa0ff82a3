-- What was taken is gone on with.
use Rattle.std.proofs.Common.{arith}
use Rattle.std.proofs.lemmas.Result.{err_from_is_err_and}
use Rattle.ddrescueshow_cli.specs.FollowSteps.{stage_of}
use Rattle.ddrescueshow_cli.specs.PutLines.{Unput}
use Rattle.ddrescueshow_cli.proofs.FollowLemmas.{alone_putting, alone_taking, breaks_taking, came_of, took_none}
use Rattle.ddrescueshow_cli.proofs.follower.Follower.take_some.Goals as goal

pub returns-in_default-clause-cause : goal.returns-in_default-clause-cause
returns-in_default-clause-cause g c = alone_taking (g.I.Feed.state c.args.feed.now) _ c.in_default.ensures.call.rose

pub returns-in_default-clause-breaks : goal.returns-in_default-clause-breaks
returns-in_default-clause-breaks g c =
    breaks_taking c.args.self.now.teller.terminal _ _ _ (g.I.Feed.state c.args.feed.now) _
    (stage_of c.args.self.now (g.P.Console.state c.args.console.now)) c.in_default.ensures.call

pub returns-then-count-eq0-clause-goes : goal.returns-then-count-eq0-clause-goes
returns-then-count-eq0-clause-goes g c =
    took_none _ c.in-Ok.count _ (g.I.Feed.state c.args.feed.now) _ c.args.self.now (g.P.Console.state c.args.console.now)
    c.requires c.if-count-eq0.true c.in-Ok.ensures.call

pub returns-in_err-add_all-clause-cause : goal.returns-in_err-add_all-clause-cause
returns-in_err-add_all-clause-cause g c =
    let p = err_from_is_err_and c.from_residual.result c.from_residual.ensures.1 in
    rw (p.1, p.2)
    (alone_putting _ (g.I.Feed.state c.args.feed.now) (g.I.Feed.state c.take.new.self) c.in_err-add_all.ensures.stops.ending
    c.in-Ok.ensures.call.kept)

pub returns-in_err-add_all-clause-breaks : goal.returns-in_err-add_all-clause-breaks
returns-in_err-add_all-clause-breaks g c =
    let p = err_from_is_err_and c.from_residual.result c.from_residual.ensures.1 in
    rw (p.1, p.2)
    (Unput _
    (came_of _ c.in-Ok.count _ _ (g.I.Feed.state c.args.feed.now) (g.I.Feed.state c.take.new.self) c.in-Ok.ensures.call
    c.split_at.ensures.front (omega (arith, c.in-Ok.ensures.count)))
    c.in_err-add_all.ensures.stops)

pub returns-clause-goes : goal.returns-clause-goes
returns-clause-goes g c = record {
  came = _;
  takes = came_of _ c.in-Ok.count _ _ (g.I.Feed.state c.args.feed.now) (g.I.Feed.state c.take.new.self) c.in-Ok.ensures.call
      c.split_at.ensures.front (omega (arith, c.in-Ok.ensures.count));
  none = λ ended. cc ended;
  goes = c.in_ok-add_all.ensures.goes;
}
