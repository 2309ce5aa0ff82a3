use Rattle.std.proofs.Common.{◌∙◌, arith}
use Rattle.ddrescueshow_cli.proofs.WalkLemmas.{walked_none, walked_piece, walked_to}
use Rattle.ddrescueshow_cli.proofs.cells.worst.Goals as goal

pub loop-at-init : goal.loop-at-init
loop-at-init g c =
    record { walked = walked_none _ _ _ _ c.none-seen.ensures; within = omega arith }

pub loop-at-preserved : goal.loop-at-preserved
loop-at-preserved g c =
    let p = c.piece_at-piece.ensures in
    record {
      walked = walked_piece _ _ _ _ _ _ _ _ _ c.loop-at.invariant.walked p.status p.inside c.with-seen.ensures;
      within = omega (arith, p.limit);
    }

pub returns : goal.returns
returns g c =
    c.worst.ensures ∙ walked_to _ _ _ _ _ _ c.loop-at.invariant.walked (omega arith) c.loop-at.invariant.within
