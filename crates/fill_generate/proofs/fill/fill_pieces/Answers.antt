use Rattle.std.specs.Prelude.{⊤}
use Rattle.std.proofs.Common.{Err, refl, sym, ap, ◌∙◌}
use Rattle.std.proofs.lemmas.Result.{err_from_is_err_and}
use Rattle.sweep_rules.specs.Sweep.{filler}
use Rattle.rescue_core.proofs.ObjectLemmas.{same_on}
use Rattle.fill_generate.specs.SweepState.{SweepState, setting_of}
use Rattle.fill_generate.proofs.TellLemmas.{objects_self, objects_stay}
use Rattle.fill_generate.proofs.PieceLemmas.{fills_is}
use Rattle.fill_generate.proofs.LoopLemmas.{begins}
use Rattle.fill_generate.proofs.PiecesLemmas.{gone_on, less_ahead, pieces_more, pieces_halt, pieces_out, fills_since, found_since}
use Rattle.fill_generate.proofs.fill.fill_pieces.Goals as goal

pub pieces-init : goal.pieces-init
pieces-init g c = (
  refl,
  λ types is. begins _ _ _ _ _ _ _ _,
  c.requires.no_draft,
  objects_self _ _ _ c.requires.image,
  record { source = refl; site = refl; clock = refl; console = refl },
)

pub fill_piece-requires-clause-room : goal.fill_piece-requires-clause-room
fill_piece-requires-clause-room g c =
    c.requires.room ∙ sym (ap (λ (q : SweepState). q.settings.cluster) c.pieces.invariant.0)

pub pieces-preserved : goal.pieces-preserved
pieces-preserved g c = (
  gone_on c.args.sweeping.now _ _ c.pieces.invariant.0 c.in_ok-fill_piece.ensures.stands,
  λ types is. pieces_more (λ e. ⊤) (filler (setting_of c.args.sweeping.now) types c.args.buffer.now) c.args.sweeping.now _
      c.fill_piece.new.sweeping _ _ _ _ _ _ _ _ _ _ _ c.pieces.invariant.0 c.pieces.invariant.3 (c.pieces.invariant.1 types is)
      (fills_since types c.args.buffer.now (λ e. ⊤) _ _ c.args.sweeping.now _ _ _ c.pieces.invariant.0
      (c.in_ok-fill_piece.ensures.ends types (ap (λ (q : SweepState). q.mode) c.pieces.invariant.0 ∙ is))),
  c.in_ok-fill_piece.ensures.draft,
  objects_stay _ _ _ _ _ _ _ _ _ c.pieces.invariant.3 c.in_ok-fill_piece.ensures.objects,
  same_on c.pieces.invariant.4 c.fill_piece.ensures.same,
)

pub pieces-smaller : goal.pieces-smaller
pieces-smaller g c = less_ahead _ c.fill_piece.new.sweeping _ c.in-Some.ensures.some c.in_ok-fill_piece.ensures.passed

pub returns-in_err-fill_piece-clause-ends : goal.returns-in_err-fill_piece-clause-ends
returns-in_err-fill_piece-clause-ends g c types is =
    let r = c.args.sweeping.now in
    let buffer = c.args.buffer.now in
    let q = err_from_is_err_and c.from_residual.result c.from_residual.ensures.1 in
    pieces_halt (λ e. ⊤) (filler (setting_of r) types buffer) r _ c.fill_piece.new.sweeping _ _ _ _ _ _ _ _ _ _ _ _ c.pieces.invariant.0
    c.pieces.invariant.3
    (c.pieces.invariant.1 types is) (fills_is r (setting_of r) types buffer is)
    (found_since r _ _ c.pieces.invariant.0 c.in-Some.ensures.some)
    (fills_since types buffer (λ e. ⊤) _ _ r _ _ _ c.pieces.invariant.0
    (c.in_err-fill_piece.ensures.ends types (ap (λ (q : SweepState). q.mode) c.pieces.invariant.0 ∙ is)))
    (q.1 ∙ ap (λ e. Err e) q.2)

pub returns-clause-ends : goal.returns-clause-ends
returns-clause-ends g c types is =
    let r = c.args.sweeping.now in
    let buffer = c.args.buffer.now in
    pieces_out (λ e. ⊤) (filler (setting_of r) types buffer) r _ _ _ _ _ _ _ _ c.pieces.invariant.0
    (fills_is r (setting_of r) types buffer is) c.in_default.ensures.none (c.pieces.invariant.1 types is) c.pieces.invariant.2
    c.pieces.invariant.3
