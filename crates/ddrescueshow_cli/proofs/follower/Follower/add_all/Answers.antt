-- Each step goes on where the one before it ended.
use Rattle.std.proofs.Common.{[], refl, arith}
use Rattle.std.proofs.lemmas.Bool.Decides.{nat_tests}
use Rattle.std.proofs.lemmas.Result.{err_from_is_err_and}
use Rattle.ddrescueshow_cli.proofs.FollowLemmas.{goes_all, goes_join, none_of, stays, stops_all, went_on}
use Rattle.ddrescueshow_cli.proofs.follower.Follower.add_all.Goals as goal

pub loop-rest-init : goal.loop-rest-init
loop-rest-init g c = record {
  came = [];
  split = refl;
  goes = stays c.args.self.now (g.P.Console.state c.args.console.now) c.requires;
}

pub loop-rest-preserved : goal.loop-rest-preserved
loop-rest-preserved g c = record {
  came = _;
  split = went_on c.loop-rest.invariant.came c.loop-rest.rest.now _ c.in_ok-count.count _ _ refl c.split_at.ensures.back
      c.loop-rest.invariant.split;
  goes = goes_join c.loop-rest.invariant.came _ c.args.self.now _ _ (g.P.Console.state c.args.console.now) _ _
      c.loop-rest.invariant.goes c.in_ok-count.ensures.goes;
}

pub add-requires-clause-unfinished : goal.add-requires-clause-unfinished
add-requires-clause-unfinished g c = c.loop-rest.invariant.goes.unfinished

pub returns-in_err-count-clause-stops : goal.returns-in_err-count-clause-stops
returns-in_err-count-clause-stops g c =
    let p = err_from_is_err_and c.from_residual.result c.from_residual.ensures.1 in
    rw (p.1, p.2)
    (stops_all c.loop-rest.invariant.came c.loop-rest.rest.now _ _ c.args.self.now _ (g.P.Console.state c.args.console.now) _ _
    c.loop-rest.invariant.split c.loop-rest.invariant.goes c.in_err-count.ensures.stops)

pub returns-clause-goes : goal.returns-clause-goes
returns-clause-goes g c =
    goes_all c.loop-rest.invariant.came c.loop-rest.rest.now _ c.args.self.now _ (g.P.Console.state c.args.console.now) _
    (none_of c.loop-rest.rest.now (grind (arith, nat_tests))) c.loop-rest.invariant.split c.loop-rest.invariant.goes
