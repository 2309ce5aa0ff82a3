-- A newline follows a line of figures that is up.
use Rattle.std.proofs.Common.{true, false, refl}
use Rattle.std.proofs.lemmas.Result.{err_from_is_err_and}
use Rattle.ddrescueshow_cli.specs.FollowSteps.{Comes, stage_of}
use Rattle.ddrescueshow_cli.proofs.FollowLemmas.{ends_below, ends_up}
use Rattle.ddrescueshow_cli.proofs.follower.Follower.finish.Goals as goal

pub returns-then-not-self-clause-done : goal.returns-then-not-self-clause-done
returns-then-not-self-clause-done g c =
    Comes true refl
    (ends_below c.args.self.now.teller.terminal (stage_of c.args.self.now (g.P.Console.state c.args.console.now)) _ _
    c.if-not-self.true c.in_ok-put_rest.ensures.puts)

pub returns-in_err-put-clause-stops : goal.returns-in_err-put-clause-stops
returns-in_err-put-clause-stops g c =
    let p = err_from_is_err_and c.from_residual-in_err-put.result c.from_residual-in_err-put.ensures.1 in
    rw (p.1, p.2)
    (Comes false c.in_err-put.ensures.broken.0
    (ends_up c.args.self.now.teller.terminal false (stage_of c.args.self.now (g.P.Console.state c.args.console.now)) _ _ _
    c.if-not-self.false c.in_ok-put_rest.ensures.puts c.in_err-put.ensures.broken.1))

pub returns-clause-done : goal.returns-clause-done
returns-clause-done g c =
    Comes true refl
    (ends_up c.args.self.now.teller.terminal true (stage_of c.args.self.now (g.P.Console.state c.args.console.now)) _ _ _
    c.if-not-self.false c.in_ok-put_rest.ensures.puts c.in_ok-put.ensures.whole)
