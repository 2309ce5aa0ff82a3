-- A value without a sign in front is a number as a whole.
use Rattle.std.proofs.Common.{None, ◌∙◌, sym, ap, arith}
use Rattle.std.proofs.lemmas.Str.Pattern.{strip_prefix_char}
use Rattle.std.specs.Option.{option_map}
use Rattle.run_options.specs.declared.limits.AreaLimit.TheVariants.{Total}
use Rattle.ddrescue_words.proofs.OptionLemmas.{limit_whole}
use Rattle.ddrescue_words.proofs.options.read_area_limit.Goals as goal

pub returns-in_ok-number_by-in-None : goal.returns-in_ok-number_by-in-None
returns-in_ok-number_by-in-None c =
    ap (option_map Total) (sym c.in_ok-number_by-in-None.was ∙ c.number_by-in-None.ensures)
    ∙ sym (limit_whole c.args.value.now
    (strip_prefix_char 43 c.args.value.now None c.in-None.ensures.cases (omega arith)))

pub returns-in_err-number_by-in-None : goal.returns-in_err-number_by-in-None
returns-in_err-number_by-in-None c =
    c.from_residual-in_err-number_by-in-None.ensures
    ∙ ap (option_map Total) (sym c.in_err-number_by-in-None.was ∙ c.number_by-in-None.ensures)
    ∙ sym (limit_whole c.args.value.now
    (strip_prefix_char 43 c.args.value.now None c.in-None.ensures.cases (omega arith)))
