-- The lines, one after another.
use Rattle.std.proofs.Common.{◌++◌, ap, ◌∙◌}
use Rattle.ddrescuelog_cli.proofs.LineLemmas.{seven_lines}
use Rattle.ddrescuelog_cli.proofs.summary.make_summary.Goals as goal

pub returns : goal.returns
returns c =
    seven_lines _ _ _ _ _ _ _ _ _ _ _ _ _ _ _ c.new-text.ensures
    (c.add_short.ensures.text ∙ ap (λ l. c.new-text.result.items ++ l) c.make_shown_line.ensures)
    (c.add_short-2.ensures.text ∙ ap (λ l. c.add_short.new.text.items ++ l) c.make_domain_line.ensures)
    (c.add_short-3.ensures.text ∙ ap (λ l. c.add_short-2.new.text.items ++ l) c.make_count_line.ensures)
    (c.add_short-4.ensures.text ∙ ap (λ l. c.add_short-3.new.text.items ++ l) c.make_count_line-2.ensures)
    (c.add_short-5.ensures.text ∙ ap (λ l. c.add_short-4.new.text.items ++ l) c.make_count_line-3.ensures)
    (c.add_short-6.ensures.text ∙ ap (λ l. c.add_short-5.new.text.items ++ l) c.make_count_line-4.ensures)
    (c.add_short-7.ensures.text ∙ ap (λ l. c.add_short-6.new.text.items ++ l) c.make_count_line-5.ensures)
