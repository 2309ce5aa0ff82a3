use Rattle.std.proofs.Common.{Err, ap, ◌∙◌}
use Rattle.std.proofs.lemmas.Result.{err_from_is_err_and}
use Rattle.fill_generate.specs.SweepState.{setting_of}
use Rattle.fill_generate.specs.Steps.{IsLookedUp}
use Rattle.fill_generate.proofs.OutcomeLemmas.{looks, looks_not}
use Rattle.fill_generate.proofs.generate.generate_piece.Goals as goal

pub returns-clause-ends : goal.returns-clause-ends
returns-clause-ends g c =
    looks c.args.sweeping.now c.look_up.new.self c.end_piece.new.self c.args.piece c.end_piece.result _ _ _ _ _ _ _
    c.requires.generates c.requires.found c.in_ok-look_up.ensures.looked c.in_ok-look_up.ensures.site c.end_piece.ensures.site
    c.end_piece.ensures.image c.requires.image c.end_piece.ensures.clock c.end_piece.ensures.ends c.end_piece.ensures.draft
    c.end_piece.ensures.draft_left

pub returns-in_err-look_up-clause-ends : goal.returns-in_err-look_up-clause-ends
returns-in_err-look_up-clause-ends g c =
    let q = err_from_is_err_and c.from_residual.result c.from_residual.ensures.1 in
    looks_not (IsLookedUp (setting_of c.args.sweeping.now) (g.D.Site.state c.args.outside.now.site.now)) c.args.sweeping.now _ c.args.piece _
    c.from_residual.result _ _ _ _ c.requires.generates c.requires.found c.in_err-look_up.ensures.failed
    c.in_err-look_up.ensures.stopped c.in_err-look_up.ensures.site c.requires.no_draft c.requires.image
    (q.1 ∙ ap (λ e. Err e) q.2)
