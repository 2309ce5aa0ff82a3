use Rattle.std.proofs.Common.{ℕ, ◌*◌, ◌++◌, ap, ◌∙◌}
use Rattle.ddrescueshow_cli.specs.Svg.{group_text}
use Rattle.ddrescueshow_cli.proofs.TextLemmas.{four}
use Rattle.ddrescueshow_cli.proofs.svg.add_svg_foot.Goals as goal

pub returns : goal.returns
returns c =
    four _ _ _ _ _ _ _ _ _
    (c.in_ok-add_group.ensures ∙ ap (λ (n : ℕ). c.args.text.now.items ++ group_text (16 * n)) c.rows.ensures)
    c.in_ok-add_first.ensures c.in_ok-add_others.ensures c.in_ok-add.ensures
