-- What is put of the line is put, or a beginning of it.
use Rattle.std.proofs.Common.{refl}
use Rattle.std.proofs.lemmas.Result.{err_from_is_err_and}
use Rattle.ddrescueshow_cli.specs.FollowSteps.{Unmade}
use Rattle.ddrescueshow_cli.proofs.FollowLemmas.{put_text, unput}
use Rattle.ddrescueshow_cli.proofs.follower.Teller.put_line.Goals as goal

pub returns-in_default-clause-loses : goal.returns-in_default-clause-loses
returns-in_default-clause-loses g c = Unmade refl refl

pub returns-in_err-put-clause-loses : goal.returns-in_err-put-clause-loses
returns-in_err-put-clause-loses g c =
    let p = err_from_is_err_and c.from_residual.result c.from_residual.ensures.1 in
    rw (p.1, p.2)
    (unput c.args.self.now.terminal c.args.line.now _ _ _ c.args.self.now.known _ _ _ c.deref.ensures.value c.in-Ok.ensures.said
    c.in_err-put.ensures.broken)

pub returns-clause-puts : goal.returns-clause-puts
returns-clause-puts g c =
    put_text c.args.self.now.terminal c.args.line.now _ _ c.args.self.now.known _ _ _ c.deref.ensures.value c.in-Ok.ensures.said
    c.in_ok-put.ensures.whole
