-- An option sets what the rescue's with its letter does.
use Rattle.std.proofs.Common.{◌∙◌, sym, ap, option_map}
use Rattle.ddrescueplan_words.specs.Options.{of_rescue}
use Rattle.ddrescueplan_words.proofs.OptionLemmas.{letter_sets, no_letter_sets}
use Rattle.ddrescueplan_words.proofs.options.PlanOptionsOptionValues.with_row.Goals as goal

pub returns-in-Some : goal.returns-in-Some
returns-in-Some c =
    c.of_rescue.ensures ∙ ap (option_map of_rescue) c.with_letter.ensures
    ∙ letter_sets c.args.row c.in-Some.letter c.args.sector c.args.self (option_map (λ v. v.now) c.args.value)
    (sym c.in-Some.ensures)

pub returns-in-None : goal.returns-in-None
returns-in-None c =
    no_letter_sets c.args.row c.args.sector c.args.self (option_map (λ v. v.now) c.args.value) (sym c.in-None.ensures)
