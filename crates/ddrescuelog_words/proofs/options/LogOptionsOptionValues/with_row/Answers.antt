-- The row at a place is the one that has its letter.
use Rattle.std.proofs.Common.{◌≡◌, ◌∙◌, sym, ap, refl, slice_get, None, option_map}
use Rattle.std.specs.Option.{option_and_then}
use Rattle.option_words.specs.Values.{row_of, set_by}
use Rattle.option_words.proofs.RowLemmas.{letter_given, row_by_letter}
use Rattle.ddrescuelog_words.specs.Options.{option_rows}
use Rattle.ddrescuelog_words.proofs.options.LogOptionsOptionValues.with_row.Goals as goal

pub returns-in-Some : goal.returns-in-Some
returns-in-Some c =
    let row = c.args.row in
    let letter = sym (letter_given option_rows row) ∙ sym c.in-Some.ensures in
    let at : slice_get option_rows row ≡ row_of c.in-Some.letter option_rows =
    row_by_letter option_rows row refl ∙ ap (option_and_then (λ l. row_of l option_rows)) letter in
    c.with_letter.ensures
    ∙ ap (λ r. set_by r c.args.sector c.args.self (option_map (λ v. v.now) c.args.value)) (sym at)

pub returns-in-None : goal.returns-in-None
returns-in-None c =
    let row = c.args.row in
    let letter = sym (letter_given option_rows row) ∙ sym c.in-None.ensures in
    let at : slice_get option_rows row ≡ None =
    row_by_letter option_rows row refl ∙ ap (option_and_then (λ l. row_of l option_rows)) letter in
    ap (λ r. set_by r c.args.sector c.args.self (option_map (λ v. v.now) c.args.value)) (sym at)
