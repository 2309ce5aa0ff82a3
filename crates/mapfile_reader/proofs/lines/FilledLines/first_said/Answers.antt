-- A line that is no comment is the first that says something, and a comment is passed over.
use Rattle.std.proofs.Common.{◌≡◌, true, false, sym, ap, ◌∙◌}
use Rattle.mapfile_reader.specs.Cursor.{no_comments, line_of}
use Rattle.mapfile_text.specs.Lines.{is_comment}
use Rattle.mapfile_reader.proofs.LineLemmas.{says-some, says-none}
use Rattle.mapfile_reader.proofs.lines.FilledLines.first_said.Goals as goal

pub returns-then-not-is_comment : goal.returns-then-not-is_comment
returns-then-not-is_comment c =
    let line = c.in-Some.line in
    let says : is_comment (line_of line).fields ≡ false = sym c.is_comment.ensures ∙ c.if-not-is_comment.true in
    sym c.loop-line.invariant ∙ ap no_comments c.in-Some.ensures ∙ says-some line.number (line_of line).fields line.after says

pub loop-line-preserved : goal.loop-line-preserved
loop-line-preserved c =
    let line = c.in-Some.line in
    let comment : is_comment (line_of line).fields ≡ true = sym c.is_comment.ensures ∙ c.if-not-is_comment.false in
    ap no_comments c.lines_after-lines.ensures ∙ sym (says-none line.number (line_of line).fields line.after comment)
    ∙ sym (ap no_comments c.in-Some.ensures) ∙ c.loop-line.invariant
