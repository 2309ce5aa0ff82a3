use Rattle.ddrescueshow_cli.proofs.TextLemmas.{four}
use Rattle.ddrescueshow_cli.proofs.svg.add_pattern.Goals as goal

pub returns : goal.returns
returns c =
    four _ _ _ _ _ _ _ _ _ c.in_ok-add.ensures c.in_ok-add-2.ensures c.in_ok-add-3.ensures c.in_ok-add_fill.ensures
