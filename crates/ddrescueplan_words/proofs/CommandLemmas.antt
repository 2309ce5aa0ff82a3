-- What a reading asks for is within limits.
use Rattle.std.proofs.Common.{◌≡◌, ℕ, ◌≤◌, Bool, true, false, cond, List, [], ◌∷◌, Option, Some, None, Result, Ok, Err, refl, sym, ◌∙◌, ap, subst}
use Rattle.option_words.specs.Words.{word}
use Rattle.option_words.specs.declared.row.Row.{Row}
use Rattle.option_words.specs.declared.reading.Item.{Item}
use Rattle.option_words.specs.declared.fault.UsageFault.{UsageFault}
use Rattle.option_words.specs.declared.fault.UsageFault.TheVariants.{BadValue}
use Rattle.option_words.specs.Reading.{IsReading}
use Rattle.option_words.specs.Values.{is_empty_text, size_by}
use Rattle.option_words.proofs.MeaningLemmas.{asked_within}
use Rattle.option_words.proofs.ResultLemmas.{untested_part}
use Rattle.option_words.proofs.ValueLemmas.{in_range}
use Rattle.ddrescue_words.specs.Asking.{is_too_large}
use Rattle.ddrescue_words.proofs.CommandLemmas.{in_limits}
use Rattle.ddrescueplan_words.specs.declared.options.PlanOptions.{PlanOptions}
use Rattle.ddrescueplan_words.specs.Options.{options_in}
use Rattle.ddrescueplan_words.specs.Command.{Command, AreInLimits, AreOptions, IsAsked, command_with, command_by, command_in, length_by, length_limit, with_length, plan_grammar, cluster_word}
use Rattle.ddrescueplan_words.proofs.OptionLemmas.{options_keep}

abbrev told : Command → Result Command UsageFault
told c = Ok c

-- what two operands ask for
record IsWith (o : PlanOptions) (c : Command) : Type 0 where
  options : c.options ≡ o
  length : c.length ≤ length_limit

same_parts : (o : PlanOptions) (n : ℕ) (name : List ℕ) (c : Command) → n ≤ length_limit
    → told (record { length = n; test_map = name; options = o }) ≡ told c → IsWith o c
same_parts o n name c few e =
    let same : ◌≡◌ {A = Command} (record { length = n; test_map = name; options = o }) c = cc in
    record {
      options = ap (λ (x : Command). x.options) (sym same);
      length = subst (λ (x : Command). x.length ≤ length_limit) same few;
    }

name_part : (b : Bool) (o : PlanOptions) (n : ℕ) (m : ℕ) (name : List ℕ) (c : Command) → n ≤ length_limit
    → cond b (Err (BadValue m)) (told (record { length = n; test_map = name; options = o })) ≡ told c → IsWith o c
name_part true o n m name c few e = absurd (cc)
name_part false o n m name c few e = same_parts o n name c few e

length_part : (l : Option ℕ) (a m : ℕ) (name : List ℕ) (o : PlanOptions) (c : Command)
    → ((n : ℕ) → l ≡ Some n → n ≤ length_limit) → with_length l a m name o ≡ told c → IsWith o c
length_part None a m name o c few e = absurd (cc)
length_part (Some n) a m name o c few e = name_part (is_empty_text name) o n m name c (few n refl) e

length_few : (sector : ℕ) (text : List ℕ) (n : ℕ) → length_by sector text ≡ Some n → n ≤ length_limit
length_few sector text n e = (in_range 0 length_limit (size_by sector (Some text)) n e).1

with_options : (words : List (List ℕ)) (o : PlanOptions) (os : List ℕ) (c : Command)
    → command_with words o os ≡ told c → IsWith o c
with_options words o (n ∷ m ∷ []) c e =
    length_part (length_by o.rescue.sector (word words n)) n m (word words m) o c
    (length_few o.rescue.sector (word words n)) e
with_options words o _ c e = absurd (cc)

-- options that are accepted give no cluster that is too large
record AreAccepted (r : Result PlanOptions ℕ) (c : Command) : Type 0 where
  read : r ≡ Ok c.options
  small : is_too_large c.options.rescue ≡ false
  length : c.length ≤ length_limit

options_by : (words : List (List ℕ)) (items : List Item) (r : Result PlanOptions ℕ) (os : List ℕ) (c : Command)
    → command_by words items r os ≡ told c → AreAccepted r c
options_by words items (Err n) os c e = absurd (cc)
options_by words items (Ok o) os c e =
    let p = untested_part (is_too_large o.rescue) (BadValue (cluster_word items)) (command_with words o os) c e in
    let k = with_options words o os c p.1 in
    record {
      read = ap Ok (sym k.options);
      small = ap (λ (x : PlanOptions). is_too_large x.rescue) k.options ∙ p.0;
      length = k.length;
    }

-- what a reading asks for is what its words ask for, and nothing else
pub reading_asks : (words : List (List ℕ)) (rows : List Row) (is : List Item) (os : List ℕ) (c : Command)
    → AreOptions rows → IsReading rows words is os → command_in words is os ≡ Ok c → IsAsked words c
reading_asks words rows is os c o r e =
    let accepted = options_by words is (options_in words is) os c e in
    let keeps = options_keep words is c.options accepted.read in
    asked_within plan_grammar words rows is os c (AreInLimits c) c.options.rescue.quiet o r e
    (record {
      options = in_limits c.options.rescue keeps.range.limits accepted.small;
      plain = keeps.range.plain;
      length = accepted.length;
    }) keeps.quiet_is
