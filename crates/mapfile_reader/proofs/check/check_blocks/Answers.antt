-- One block line more, or the first fault.
use Rattle.std.proofs.Common.{◌≡◌, ◌∷◌, List, Err, refl, sym, ◌∙◌, ap, subst, arith, length, rules}
use Rattle.mapfile_reader.specs.declared.check.MapShape.{MapShape}
use Rattle.mapfile_text.specs.Lines.{Line}
use Rattle.mapfile_reader.specs.Cursor.{OpenLine, line_of, no_comments}
use Rattle.mapfile_reader.proofs.Progress.{Comes, comes-begin, comes-end, comes-bad_block, comes-bad_place, comes-next, same_place}
use Rattle.mapfile_reader.proofs.check.check_blocks.Goals as goal

pub loop-line-init : goal.loop-line-init
loop-line-init c = record { state = refl; comes = comes-begin c.args.mode (no_comments c.args.lines) c.args.state }

pub returns-in_err-block-clause-fault : goal.returns-in_err-block-clause-fault
returns-in_err-block-clause-fault c =
    let line = c.in-Some.line in
    let q : c.from_residual.result ≡ Err c.in_err-block.field-0.0 = search rules in
    let g : Comes c.args.mode (no_comments c.args.lines) c.loop-line.shape (line_of line ∷ no_comments line.after) =
    rw c.in-Some.ensures at c.loop-line.invariant.comes in
    rw q (comes-bad_block _ g c.in_err-block.ensures.fault)

pub put-requires-clause-few : goal.put-requires-clause-few
put-requires-clause-few c =
    let line = c.in-Some.line in
    let g : Comes c.args.mode (no_comments c.args.lines) c.loop-line.shape (line_of line ∷ no_comments line.after) =
    rw c.in-Some.ensures at c.loop-line.invariant.comes in
    omega (arith, g.lines)

pub loop-line-preserved : goal.loop-line-preserved
loop-line-preserved c =
    let line = c.in-Some.line in
    let more = c.in_ok-put.ensures in
    let g : Comes c.args.mode (no_comments c.args.lines) c.loop-line.shape (line_of line ∷ no_comments line.after) =
    rw c.in-Some.ensures at c.loop-line.invariant.comes in
    let left : no_comments c.lines_after-lines.result ≡ no_comments line.after =
    ap no_comments (c.lines_after-lines.ensures ∙ ap (λ (l : OpenLine). l.after) c.read_block.ensures.kept) in
    record {
      state = ap (λ (s : MapShape). s.state) more.put ∙ c.loop-line.invariant.state;
      comes = subst (λ (ls : List Line). Comes c.args.mode (no_comments c.args.lines) c.put.new.self ls) (sym left)
          (comes-next c.loop-line.shape c.put.new.self c.in_ok-block.block more.put g c.in_ok-block.ensures.block more.gap);
    }

pub returns-in_err-put-clause-fault : goal.returns-in_err-put-clause-fault
returns-in_err-put-clause-fault c =
    let line = c.in-Some.line in
    let q : c.from_residual-in_err-put.result ≡ Err c.in_err-put.field-0.0 = search rules in
    let g : Comes c.args.mode (no_comments c.args.lines) c.loop-line.shape (line_of line ∷ no_comments line.after) =
    rw c.in-Some.ensures at c.loop-line.invariant.comes in
    let place = c.in_err-put.ensures.fault in
    let number = ap (λ (l : OpenLine). l.number) c.read_block.ensures.kept in
    rw q (comes-bad_place _ g place.0 c.in_ok-block.ensures.block
    (same_place c.args.mode c.loop-line.shape.end (line_of c.read_block.new.line) (line_of line) c.in_ok-block.block _ number place.1))

pub returns-clause-lists : goal.returns-clause-lists
returns-clause-lists c = comes-end (rw c.in_default.ensures at c.loop-line.invariant.comes)

pub loop-line-smaller : goal.loop-line-smaller
loop-line-smaller c =
    let line = c.in-Some.line in
    let left : no_comments c.lines_after-lines.result ≡ no_comments line.after =
    ap no_comments (c.lines_after-lines.ensures ∙ ap (λ (l : OpenLine). l.after) c.read_block.ensures.kept) in
    omega (arith, ap length left, ap length c.in-Some.ensures)
