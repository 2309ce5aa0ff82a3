-- What a reading asks for is within limits.
use Rattle.std.proofs.Common.{◌≡◌, ℕ, List, [], ◌∷◌, Result, Ok, Err, sym, ap}
use Rattle.option_words.specs.declared.row.Row.{Row}
use Rattle.option_words.specs.declared.reading.Item.{Item}
use Rattle.option_words.specs.declared.fault.UsageFault.{UsageFault}
use Rattle.option_words.specs.Reading.{IsReading}
use Rattle.option_words.specs.Values.{empty_operand}
use Rattle.option_words.proofs.MeaningLemmas.{asked_within}
use Rattle.option_words.proofs.ResultLemmas.{unless_part}
use Rattle.ddrescueverify_words.specs.declared.options.VerifyOptions.{VerifyOptions}
use Rattle.ddrescueverify_words.specs.Options.{options_in}
use Rattle.ddrescueverify_words.specs.Command.{Command, AreInLimits, AreOptions, IsAsked, command_with, command_by, command_in, verify_grammar}
use Rattle.ddrescueverify_words.proofs.OptionLemmas.{AreInRange, options_keep}

abbrev told : Command → Result Command UsageFault
told c = Ok c

same_options : (c c' : Command) → told c ≡ told c' → c'.options ≡ c.options
same_options c c' e = let same : c ≡ c' = cc in ap (λ (x : Command). x.options) (sym same)

with_options : (words : List (List ℕ)) (o : VerifyOptions) (os : List ℕ) (c : Command)
    → command_with words o os ≡ told c → c.options ≡ o
with_options words o (i ∷ out ∷ map ∷ []) c e = same_options _ c e
with_options words o _ c e = absurd (cc)

options_by : (words : List (List ℕ)) (r : Result VerifyOptions ℕ) (os : List ℕ) (c : Command)
    → command_by words r os ≡ told c → r ≡ Ok c.options
options_by words (Err n) os c e = absurd (cc)
options_by words (Ok o) os c e =
    let named = unless_part (empty_operand words os) (command_with words o os) c e in
    ap Ok (sym (with_options words o os c named))

in_limits : (o : VerifyOptions) → AreInRange o.sector o → AreInLimits o
in_limits o h = record {
  sector = h.sector.low;
  sector_max = h.sector.high;
  input_position = h.input;
  output_position = h.output;
}

-- what a reading asks for is what its words ask for, and nothing else
pub reading_asks : (words : List (List ℕ)) (rows : List Row) (is : List Item) (os : List ℕ) (c : Command)
    → AreOptions rows → IsReading rows words is os → command_in words is os ≡ Ok c → IsAsked words c
reading_asks words rows is os c o r e =
    let keeps = options_keep words is c.options (options_by words (options_in words is) os c e) in
    asked_within verify_grammar words rows is os c (AreInLimits c.options) c.options.quiet o r e
    (in_limits c.options keeps.range) keeps.quiet_is
