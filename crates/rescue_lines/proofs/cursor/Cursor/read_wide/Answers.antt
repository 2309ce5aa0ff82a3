-- The value's own digits are read, and then the piece.
use Rattle.rescue_lines.proofs.LineLemmas.{number_strips}
use Rattle.rescue_lines.proofs.cursor.Cursor.read_wide.Goals as goal

pub returns : goal.returns
returns c =
    number_strips _ _ c.args.after.now _ _ _ c.format.ensures.text c.read.ensures c.read-2.ensures c.value-value.ensures
    c.requires
