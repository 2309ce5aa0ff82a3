-- Where fill mode isn't given, generate mode may be.
use Rattle.std.proofs.Common.{◌≡◌, false, ◌||◌, ◌∙◌, sym, ap}
use Rattle.option_words.specs.Values.{is_given}
use Rattle.ddrescue_words.specs.Options.{fill_letter, generate_letter, option_meanings}
use Rattle.ddrescue_words.proofs.command.is_mode_given.Goals as goal

pub returns-else-is_given : goal.returns-else-is_given
returns-else-is_given c =
    let other = is_given option_meanings generate_letter c.args.items.now in
    let unfilled : is_given option_meanings fill_letter c.args.items.now ≡ false =
    ap (λ t. is_given t fill_letter c.args.items.now) (sym c.requires.meanings) ∙ sym c.is_given.ensures
    ∙ c.if-is_given.false in
    c.is_given-else-is_given.ensures ∙ ap (λ t. is_given t generate_letter c.args.items.now) c.requires.meanings
    ∙ sym (ap (λ b. b || other) unfilled)
