-- The row at a place is the one that has its letter, or that of a sample.
use Rattle.std.proofs.Common.{rules, ◌∙◌, sym, ap, option_map}
use Rattle.option_words.specs.Values.{set_by}
use Rattle.ddrescue_words.proofs.RowLemmas.{place_unlettered, row_lettered, row_of_sample}
use Rattle.ddrescue_words.proofs.options.OptionsOptionValues.with_row.Goals as goal

pub returns-then-row-eq-SAMPLE : goal.returns-then-row-eq-SAMPLE
returns-then-row-eq-SAMPLE c =
    c.with_sample.ensures
    ∙ ap (λ r. set_by r c.args.sector c.args.self (option_map (λ v. v.now) c.args.value))
    (sym (row_of_sample c.args.row (search rules)))

pub returns-in-Some : goal.returns-in-Some
returns-in-Some c =
    c.with_letter.ensures
    ∙ ap (λ r. set_by r c.args.sector c.args.self (option_map (λ v. v.now) c.args.value))
    (sym (row_lettered c.args.row c.in-Some.letter (search rules) (sym c.in-Some.ensures)))

pub returns-in-None : goal.returns-in-None
returns-in-None c =
    ap (λ r. set_by r c.args.sector c.args.self (option_map (λ v. v.now) c.args.value))
    (sym (place_unlettered c.args.row (search rules) (sym c.in-None.ensures)))
