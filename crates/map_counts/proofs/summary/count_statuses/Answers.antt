use Rattle.std.proofs.Common.{◌≡◌, ◌∙◌, refl, arith}
use Rattle.std.proofs.lemmas.Bool.{le-ltb}
use Rattle.rescue_domain.specs.Parts.{covers}
use Rattle.map_counts.specs.Summary.{has_one}
use Rattle.map_counts.proofs.CountLemmas.{is_open, few, none_counted, counted_piece, counted_to, has_constant, open_at, open_none}
use Rattle.map_counts.proofs.summary.count_statuses.Goals as goal
use Rattle.map_counts.proofs.summary.count_statuses.Goals.{then-from-gt0, else-from-gt0}

pub counted-count-requires-clause-bytes : goal.counted-count-requires-clause-bytes
counted-count-requires-clause-bytes g c =
    let k = few _ _ _ _ _ c.loop-at.invariant.so_far in
    omega (arith, k.0, c.piece_at-piece.ensures.limit)

pub counted-count-requires-clause-areas : goal.counted-count-requires-clause-areas
counted-count-requires-clause-areas g c =
    let k = few _ _ _ _ _ c.loop-at.invariant.so_far in
    omega (arith, k.1, c.piece_at-piece.ensures.limit)

pub loop-at-preserved : goal.loop-at-preserved
loop-at-preserved g c =
    let p = c.piece_at-piece.ensures in
    let k = has_constant _ _ c.args.statuses.now _ _ _ _ p.inside p.status in
    record {
      so_far = counted_piece _ _ _ _ _ _ _ _ c.loop-at.invariant.so_far (rw (← c.has_one-counts.ensures) at k)
          c.counted-count.ensures.bytes c.counted-count.ensures.areas;
      within = omega (arith, p.limit);
    }

pub returns : goal.returns
returns g c =
    counted_to _ _ _ _ _ _ c.loop-at.invariant.so_far (omega arith) c.loop-at.invariant.within

pub loop-at-init : goal.loop-at-init
loop-at-init g c =
    let set = has_one (covers c.args.domain.now) (g.T.Tiles.statuses c.args.tiles.now) c.args.statuses.now in
    let front : c.if-from-gt0.begun ≡ is_open set c.args.from = elim c.if-from-gt0.branch [
      | then-from-gt0 w ↦
          let p = w.piece_at.ensures in
          let alike = has_constant _ _ c.args.statuses.now _ _ _ _ p.inside p.status in
          w.begun-is ∙ w.has_one-begun.ensures ∙ open_at _ _ _ _ w.if-from-gt0.true alike
      | else-from-gt0 w ↦ w.begun-is ∙ le-ltb 0 c.args.from w.if-from-gt0.false ∙ open_none set c.args.from w.if-from-gt0.false
    ] in
    record { so_far = none_counted _ _ _ _ refl refl front; within = omega arith }
