-- One piece more.
use Rattle.std.proofs.Common.{ℕ, List, sym, arith}
use Rattle.block_list.specs.declared.status.Status.{Status}
use Rattle.rescue_domain.specs.Parts.{covers}
use Rattle.map_counts.specs.At.{status_at}
use Rattle.map_algebra.specs.Create.{at_mark}
use Rattle.map_algebra.proofs.MapLemmas.{grown}
use Rattle.map_algebra.proofs.create.created.Goals as goal

pub loop-at-preserved : goal.loop-at-preserved
loop-at-preserved c =
    let s : List Status = c.args.marks.now.statuses in
    let f : ℕ → Status = λ x. at_mark (status_at s x) (covers c.args.domain.now x) c.args.listed c.args.rest in
    let p = c.piece_at-piece.ensures in
    record {
      so_far = grown f c.loop-at.at c.piece_at-piece.result.to c.created_at-status.result _ _ c.loop-at.invariant.so_far
          (omega (arith, p.inside.some)) c.in_ok-put.ensures.ok
          (λ x a b. rw (p.inside.each x a b, p.status.each x a b) (sym c.created_at-status.ensures));
      below = p.limit;
    }
