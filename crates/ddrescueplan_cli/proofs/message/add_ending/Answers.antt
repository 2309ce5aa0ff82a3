use Rattle.std.proofs.Common.{ℕ, List, ◌++◌, codes, ap, ◌∙◌, append_assoc}
use Rattle.console_texts.specs.Texts.{error_text}
use Rattle.ddrescueplan_cli.proofs.message.add_ending.Goals as goal

pub returns-in-MapRefused-clause-text : goal.returns-in-MapRefused-clause-text
returns-in-MapRefused-clause-text c =
    let text = error_text c.in-MapRefused.error in
    rw c.in-MapRefused.is
    (c.add_map_error.ensures.text ∙ ap (λ (t : List ℕ). t ++ text) c.add-in-MapRefused.ensures
    ∙ append_assoc c.args.message.now.items (codes "test mapfile: ") text)
