use Rattle.rescue_lines.proofs.LineLemmas.{opening_printed}
use Rattle.rescue_lines.proofs.lines.read_opening.Goals as goal

pub returns-clause-printed : goal.returns-clause-printed
returns-clause-printed c =
    opening_printed _ _ _ _ _ c.new-cursor.ensures c.read.ensures c.read_number-size.ensures
    (λ none.
    let lost = c.is_lost.ensures.1 none in
    let no = c.if-is_lost.false in
    cc)
