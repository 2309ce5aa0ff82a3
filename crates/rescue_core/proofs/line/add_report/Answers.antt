use Rattle.std.proofs.Common.{codes, ◌∷◌, []}
use Rattle.std.specs.Fmt.{decimal}
use Rattle.rescue_core.proofs.LineLemmas.{parts_join}
use Rattle.rescue_core.proofs.line.add_report.Goals as goal

pub returns : goal.returns
returns c =
    parts_join (codes " B/s") (10 ∷ []) c.args.line.now.items _ _ _ _ _ _ _ _ _ (codes ": position ")
    (decimal c.args.report.now.shown.pos) _ _ _ _ _ _ _ _ _ _ _ _ c.add_number.ensures.text c.add_number-2.ensures.text
    c.add_number-3.ensures.text c.add_number-4.ensures.text c.add_number-5.ensures.text c.add_number-6.ensures.text
    c.add.ensures c.add_rate.ensures.text c.add-2.ensures
