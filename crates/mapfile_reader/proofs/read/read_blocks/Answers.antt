-- One block line more, or the first fault.
use Rattle.std.proofs.Common.{◌≡◌, ◌∷◌, List, length, Err, inl, inr, refl, sym, ap, subst, ◌∙◌, ⊎_elim, arith, rules}
use Rattle.mapfile_text.specs.Lines.{Line}
use Rattle.mapfile_reader.specs.Cursor.{OpenLine, line_of, no_comments}
use Rattle.mapfile_reader.proofs.Progress.{Goes, goes-begin, goes-end, goes-bad_block, goes-bad_place, goes-next, same_place}
use Rattle.mapfile_reader.proofs.read.read_blocks.Goals as goal

pub loop-line-init : goal.loop-line-init
loop-line-init c =
    record {
      state = refl;
      goes = goes-begin c.args.mode (no_comments c.args.lines) c.args.map.listed c.args.map.first
          c.args.map.tiles.statuses c.requires.listed c.requires.first c.requires.statuses;
    }

pub returns-in_err-block-clause-fault : goal.returns-in_err-block-clause-fault
returns-in_err-block-clause-fault c =
    let map = c.loop-line.map in
    let line = c.in-Some.line in
    let q : c.from_residual.result ≡ Err c.in_err-block.field-0.0 = search rules in
    let g : Goes c.args.mode (no_comments c.args.lines) map.listed map.first map.tiles.statuses (line_of line ∷ no_comments line.after) =
    rw c.in-Some.ensures at c.loop-line.invariant.goes in
    rw q (inr (goes-bad_block _ map.listed g c.in_err-block.ensures.fault))

pub loop-line-preserved : goal.loop-line-preserved
loop-line-preserved c =
    let map = c.loop-line.map in
    let line = c.in-Some.line in
    let more = c.in_ok-put.ensures in
    let g : Goes c.args.mode (no_comments c.args.lines) map.listed map.first map.tiles.statuses (line_of line ∷ no_comments line.after) =
    rw c.in-Some.ensures at c.loop-line.invariant.goes in
    let left : no_comments c.lines_after-lines.result ≡ no_comments line.after =
    ap no_comments (c.lines_after-lines.ensures ∙ ap (λ (l : OpenLine). l.after) c.read_block.ensures.kept) in
    record {
      state = more.state ∙ c.loop-line.invariant.state;
      goes = subst (λ (ls : List Line).
          Goes c.args.mode (no_comments c.args.lines) c.put.new.self.listed c.put.new.self.first c.put.new.self.tiles.statuses ls) (sym left)
          (goes-next map.listed c.put.new.self.listed map.first c.put.new.self.first map.tiles.statuses c.put.new.self.tiles.statuses c.in_ok-block.block
          more.listed g c.in_ok-block.ensures.block more.gap more.first more.statuses);
    }

pub returns-in_err-put-clause-fault : goal.returns-in_err-put-clause-fault
returns-in_err-put-clause-fault c =
    let map = c.loop-line.map in
    let line = c.in-Some.line in
    let q : c.from_residual-in_err-put.result ≡ Err c.in_err-put.field-0.0 = search rules in
    let g : Goes c.args.mode (no_comments c.args.lines) map.listed map.first map.tiles.statuses (line_of line ∷ no_comments line.after) =
    rw c.in-Some.ensures at c.loop-line.invariant.goes in
    let number = ap (λ (l : OpenLine). l.number) c.read_block.ensures.kept in
    rw q (⊎_elim (λ out. inl out) (λ place. inr (goes-bad_place _ map.listed g place.0 c.in_ok-block.ensures.block
    (same_place c.args.mode (length map.tiles.statuses) (line_of c.read_block.new.line) (line_of line) c.in_ok-block.block _ number place.1)))
    c.in_err-put.ensures.fault)

pub returns-clause-lists : goal.returns-clause-lists
returns-clause-lists c = goes-end c.loop-line.map.listed (rw c.in_default.ensures at c.loop-line.invariant.goes)

pub loop-line-smaller : goal.loop-line-smaller
loop-line-smaller c =
    let line = c.in-Some.line in
    let left : no_comments c.lines_after-lines.result ≡ no_comments line.after =
    ap no_comments (c.lines_after-lines.ensures ∙ ap (λ (l : OpenLine). l.after) c.read_block.ensures.kept) in
    omega (arith, ap length left, ap length c.in-Some.ensures)
