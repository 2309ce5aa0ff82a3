-- Each round comes after rounds in which nothing failed.
use Rattle.std.proofs.Common.{◌∙◌, true, false, inl, refl}
use Rattle.std.proofs.lemmas.Result.{err_from_is_err_and}
use Rattle.ddrescueshow_cli.specs.PutLines.{Starved}
use Rattle.ddrescueshow_cli.proofs.FollowLemmas.{alone_after, alone_putting, breaks_after, last_round, no_rounds, one_round}
use Rattle.ddrescueshow_cli.proofs.follower.Follower.take_all.Goals as goal

pub loop-init : goal.loop-init
loop-init g c = record {
  faults = refl;
  goes = no_rounds (g.I.Feed.state c.args.feed.now) c.args.self.now (g.P.Console.state c.args.console.now) c.requires;
}

pub take_some-requires : goal.take_some-requires
take_some-requires g c = c.loop.invariant.goes.unfinished

pub loop-preserved : goal.loop-preserved
loop-preserved g c = record {
  faults = c.in_ok-more.ensures.takes ∙ c.loop.invariant.faults;
  goes = one_round _ (g.I.Feed.state c.args.feed.now) _ _ c.args.self.now _ _ (g.P.Console.state c.args.console.now) _ _
      c.loop.invariant.goes c.in_ok-more.ensures.goes;
}

pub returns-in_err-more-clause-cause : goal.returns-in_err-more-clause-cause
returns-in_err-more-clause-cause g c =
    let p = err_from_is_err_and c.from_residual.result c.from_residual.ensures.1 in
    rw (p.1, p.2)
    (alone_after _ (g.I.Feed.state c.args.feed.now) _ _ c.loop.invariant.faults c.in_err-more.ensures.cause)

pub returns-in_err-more-clause-breaks : goal.returns-in_err-more-clause-breaks
returns-in_err-more-clause-breaks g c =
    let p = err_from_is_err_and c.from_residual.result c.from_residual.ensures.1 in
    rw (p.1, p.2)
    (breaks_after _ (g.I.Feed.state c.args.feed.now) _ _ c.args.self.now _ (g.P.Console.state c.args.console.now) _ _
    c.loop.invariant.goes c.in_err-more.ensures.breaks)

pub returns-then-not-more-clause-goes : goal.returns-then-not-more-clause-goes
returns-then-not-more-clause-goes g c =
    last_round _ (g.I.Feed.state c.args.feed.now) _ _ c.args.self.now _ _ (g.P.Console.state c.args.console.now) _ _
    c.if-not-more.true c.loop.invariant.goes c.in_ok-more.ensures.goes

pub returns-clause-cause : goal.returns-clause-cause
returns-clause-cause g c = alone_putting _ (g.I.Feed.state c.args.feed.now) _ (inl refl) c.loop.invariant.faults

pub returns-clause-breaks : goal.returns-clause-breaks
returns-clause-breaks g c =
    breaks_after _ (g.I.Feed.state c.args.feed.now) _ _ c.args.self.now _ (g.P.Console.state c.args.console.now) _ _
    c.loop.invariant.goes (Starved refl refl refl)
