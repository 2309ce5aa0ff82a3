-- The line is the text as it is printed, and a newline.
use Rattle.std.proofs.Common.{◌++◌, [], ◌∷◌, map, ap, ◌∙◌}
use Rattle.mapfile_text.specs.Printed.{shown_byte}
use Rattle.program_advice.proofs.LineLemmas.{one_line}
use Rattle.program_advice.proofs.line.finished.Goals as goal

pub returns-clause-line : goal.returns-clause-line
returns-clause-line c =
    let shown = map shown_byte c.args.text.now in
    let all = c.add_shown.ensures.text ∙ ap (λ bs. bs ++ shown) c.new-line.ensures in
    one_line c.args.text.now c.push.new.self.items (c.push.ensures.items ∙ ap (λ bs. bs ++ 10 ∷ []) all) c.requires
