-- The last line is put if it has a byte.
use Rattle.std.proofs.Common.{true, arith}
use Rattle.std.proofs.lemmas.Result.{err_from_is_err_and}
use Rattle.ddrescueshow_cli.specs.FollowSteps.{stage_of}
use Rattle.ddrescueshow_cli.proofs.FollowLemmas.{no_rest, none_if, one_rest, rest_lost, some_if}
use Rattle.ddrescueshow_cli.proofs.follower.Follower.put_rest.Goals as goal

pub returns-then-is_empty-clause-puts : goal.returns-then-is_empty-clause-puts
returns-then-is_empty-clause-puts g c =
    no_rest c.args.self.now.teller.terminal (stage_of c.args.self.now (g.P.Console.state c.args.console.now))
    (none_if c.args.self.now.line.items _ _ (omega (arith, c.args.self.now.line.ok.0)) c.is_empty.ensures c.if-is_empty.true)

pub returns-in_err-put_line-clause-finishes : goal.returns-in_err-put_line-clause-finishes
returns-in_err-put_line-clause-finishes g c =
    let p = err_from_is_err_and c.from_residual.result c.from_residual.ensures.1 in
    rw (p.1, p.2)
    (rest_lost c.args.self.now.teller.terminal _ (stage_of c.args.self.now (g.P.Console.state c.args.console.now)) _ c.requires
    (some_if c.args.self.now.line.items _ _ (omega (arith, c.args.self.now.line.ok.0)) c.is_empty.ensures c.if-is_empty.false)
    (rw c.deref.ensures.value at c.in_err-put_line.ensures.loses))

pub returns-clause-puts : goal.returns-clause-puts
returns-clause-puts g c =
    one_rest c.args.self.now.teller.terminal true (stage_of c.args.self.now (g.P.Console.state c.args.console.now)) _ _ c.requires
    (some_if c.args.self.now.line.items _ _ (omega (arith, c.args.self.now.line.ok.0)) c.is_empty.ensures c.if-is_empty.false)
    (rw c.deref.ensures.value at c.in_ok-put_line.ensures.puts)
