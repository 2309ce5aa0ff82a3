use Rattle.std.proofs.Common.{ℕ, List, cond, sym, arith}
use Rattle.block_list.specs.declared.status.Status.{Status}
use Rattle.rescue_domain.specs.Parts.{covers}
use Rattle.map_counts.specs.At.{status_at}
use Rattle.map_algebra.specs.Change.{changed_by}
use Rattle.map_algebra.proofs.MapLemmas.{grown}
use Rattle.map_algebra.proofs.change.change_types.Goals as goal

pub loop-at-preserved : goal.loop-at-preserved
loop-at-preserved g c =
    let s : List Status = g.T.Tiles.statuses c.args.tiles.now in
    let f : ℕ → Status = λ x.
    cond (covers c.args.domain.now x) (changed_by c.args.change.now (status_at s x)) (status_at s x) in
    let p = c.piece_at-piece.ensures in
    record {
      so_far = grown f c.loop-at.at c.piece_at-piece.result.to c.changed.result _ _ c.loop-at.invariant.so_far
          (omega (arith, p.inside.some)) c.in_ok-put.ensures.ok
          (λ x a b. rw (p.inside.each x a b, p.status.each x a b) (sym c.changed.ensures));
      below = p.limit;
    }
