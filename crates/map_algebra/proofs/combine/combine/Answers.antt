use Rattle.std.proofs.Common.{ℕ, List, cond, sym, arith}
use Rattle.block_list.specs.declared.status.Status.{Status}
use Rattle.rescue_domain.specs.Parts.{covers}
use Rattle.map_counts.specs.At.{status_at}
use Rattle.map_algebra.specs.Combine.{combined}
use Rattle.map_algebra.proofs.MapLemmas.{grown}
use Rattle.map_algebra.proofs.combine.combine.Goals as goal

pub loop-at-preserved : goal.loop-at-preserved
loop-at-preserved g c =
    let s : List Status = g.T.Tiles.statuses c.args.first.now in
    let u : List Status = g.U.Tiles.statuses c.args.second.now in
    let f : ℕ → Status = λ x.
    cond (covers c.args.domain.now x) (combined c.args.op (status_at s x) (status_at u x)) (status_at s x) in
    let p = c.pair_at-pair.ensures in
    record {
      so_far = grown f c.loop-at.at c.pair_at-pair.result.to c.combined_piece.result _ _ c.loop-at.invariant.so_far
          (omega (arith, p.inside.some)) c.in_ok-put.ensures.ok
          (λ x a b. rw (p.inside.each x a b, p.first.each x a b, p.second.each x a b) (sym c.combined_piece.ensures));
      below = p.limit;
    }
