use Rattle.std.proofs.Common.{Err, refl, sym, ap, ◌∙◌}
use Rattle.std.proofs.lemmas.Result.{err_from_is_err_and}
use Rattle.sweep_rules.specs.Sweep.{generator}
use Rattle.rescue_core.proofs.ObjectLemmas.{same_on}
use Rattle.fill_generate.specs.SweepState.{SweepState, setting_of}
use Rattle.fill_generate.specs.Steps.{IsLookedUp}
use Rattle.fill_generate.proofs.TellLemmas.{objects_self, objects_stay}
use Rattle.fill_generate.proofs.PieceLemmas.{generates_is}
use Rattle.fill_generate.proofs.LoopLemmas.{begins}
use Rattle.fill_generate.proofs.PiecesLemmas.{gone_on, less_ahead, pieces_more, pieces_halt, pieces_out, looks_since, found_since}
use Rattle.fill_generate.proofs.generate.generate_pieces.Goals as goal

pub pieces-init : goal.pieces-init
pieces-init g c = (
  refl,
  refl,
  begins _ _ _ _ _ _ _ _,
  c.requires.no_draft,
  objects_self _ _ _ c.requires.image,
  record { source = refl; site = refl; clock = refl; console = refl },
)

pub generate_piece-requires-clause-generates : goal.generate_piece-requires-clause-generates
generate_piece-requires-clause-generates g c =
    ap (λ (q : SweepState). q.mode) c.pieces.invariant.0 ∙ c.requires.generates

pub generate_piece-requires-clause-room : goal.generate_piece-requires-clause-room
generate_piece-requires-clause-room g c =
    c.pieces.invariant.1 ∙ c.requires.room ∙ sym (ap (λ (q : SweepState). q.settings.cluster) c.pieces.invariant.0)

pub pieces-preserved : goal.pieces-preserved
pieces-preserved g c =
    let r = c.args.sweeping.now in
    let site = g.D.Site.state c.args.outside.now.site.now in
    let ends = c.in_ok-generate_piece.ensures.ends in (
      gone_on c.args.sweeping.now _ _ c.pieces.invariant.0 ends.stands,
      c.in_ok-generate_piece.ensures.room ∙ c.pieces.invariant.1,
      pieces_more (IsLookedUp (setting_of r) site) (generator (setting_of r)) r _ c.generate_piece.new.sweeping _ _ _ _ _ _ _ _ _ _ _
          c.pieces.invariant.0 c.pieces.invariant.4
          c.pieces.invariant.2 (looks_since _ _ r _ _ _ _ _ _ _ _ _ c.pieces.invariant.0 c.pieces.invariant.4 c.pieces.invariant.2
          ends),
      ends.no_draft,
      objects_stay _ _ _ _ _ _ _ _ _ c.pieces.invariant.4 ends.objects,
      same_on c.pieces.invariant.5 c.generate_piece.ensures.same,
    )

pub pieces-smaller : goal.pieces-smaller
pieces-smaller g c = less_ahead _ c.generate_piece.new.sweeping _ c.in-Some.ensures.some c.in_ok-generate_piece.ensures.ends.passed

pub returns-in_err-generate_piece-clause-ends : goal.returns-in_err-generate_piece-clause-ends
returns-in_err-generate_piece-clause-ends g c =
    let r = c.args.sweeping.now in
    let site = g.D.Site.state c.args.outside.now.site.now in
    let q = err_from_is_err_and c.from_residual.result c.from_residual.ensures.1 in
    pieces_halt (IsLookedUp (setting_of r) site) (generator (setting_of r)) r _ c.generate_piece.new.sweeping _ _ _ _ _ _ _ _ _ _ _ _
    c.pieces.invariant.0 c.pieces.invariant.4
    c.pieces.invariant.2 (generates_is r (setting_of r) c.requires.generates)
    (found_since r _ _ c.pieces.invariant.0 c.in-Some.ensures.some)
    (looks_since _ _ r _ _ _ _ _ _ _ _ _ c.pieces.invariant.0 c.pieces.invariant.4 c.pieces.invariant.2
    c.in_err-generate_piece.ensures.ends) (q.1 ∙ ap (λ e. Err e) q.2)

pub returns-clause-ends : goal.returns-clause-ends
returns-clause-ends g c =
    let r = c.args.sweeping.now in
    let site = g.D.Site.state c.args.outside.now.site.now in
    pieces_out (IsLookedUp (setting_of r) site) (generator (setting_of r)) r _ _ _ _ _ _ _ _ c.pieces.invariant.0
    (generates_is r (setting_of r) c.requires.generates) c.in_default.ensures.none c.pieces.invariant.2 c.pieces.invariant.3
    c.pieces.invariant.4
