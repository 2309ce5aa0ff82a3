-- What a reading asks for is what its words ask for, within limits.
use Rattle.std.proofs.Common.{◌≡◌, ℕ, ◌≤◌, Bool, List, [], ◌∷◌, Option, Some, None, Ok, refl, subst}
use Rattle.option_words.specs.Words.{word}
use Rattle.option_words.specs.declared.row.Row.{Row}
use Rattle.option_words.specs.declared.reading.Item.{Item}
use Rattle.option_words.specs.declared.fault.UsageFault.TheVariants.{BadValue}
use Rattle.option_words.specs.Reading.{IsReading}
use Rattle.option_words.specs.Values.{is_empty_text, is_given, number_by, quiet_letter}
use Rattle.option_words.proofs.ValueLemmas.{in_range}
use Rattle.option_words.proofs.MeaningLemmas.{asked_within}
use Rattle.option_words.proofs.ResultLemmas.{untested_part}
use Rattle.ddrescuepart_words.specs.Command.{AreOptions, Command, IsAsked, IsInLimits, command_in, last_partition, option_meanings, part_grammar, partition_by, with_operands, with_partition}

-- what is asked for by two operands
record IsOf (quiet : Bool) (c : Command) : Type 0 where
  quiet_is : c.quiet ≡ quiet
  low : 1 ≤ c.partition
  high : c.partition ≤ last_partition

partition_part : (infile : List ℕ) (n : ℕ) (o : Option ℕ) (quiet : Bool) (c : Command)
    → ((k : ℕ) → o ≡ Some k → (1 ≤ k) × (k ≤ last_partition)) → with_partition infile n o quiet ≡ Ok c → IsOf quiet c
partition_part infile n None quiet c number e = absurd (cc)
partition_part infile n (Some k) quiet c number e =
    let same : (record { infile = infile; partition = k; quiet = quiet }) ≡ c = cc in
    subst (IsOf quiet) same (record { quiet_is = refl; low = (number k refl).0; high = (number k refl).1 })

operands_part : (words : List (List ℕ)) (quiet : Bool) (os : List ℕ) (c : Command)
    → with_operands words quiet os ≡ Ok c → IsOf quiet c
operands_part words quiet (i ∷ k ∷ []) c e =
    let named = (untested_part (is_empty_text (word words i)) (BadValue i)
    (with_partition (word words i) k (partition_by (word words k)) quiet) c e).1 in
    partition_part (word words i) k (partition_by (word words k)) quiet c
    (λ n is. in_range 1 last_partition (number_by (Some (word words k))) n is) named
operands_part words quiet _ c e = absurd (cc)

pub reading_asks : (words : List (List ℕ)) (rows : List Row) (is : List Item) (os : List ℕ) (c : Command)
    → AreOptions rows → IsReading rows words is os → command_in words is os ≡ Ok c → IsAsked words c
reading_asks words rows is os c o r e =
    let of = operands_part words (is_given option_meanings quiet_letter is) os c e in
    asked_within part_grammar words rows is os c (IsInLimits c) c.quiet o r e
    (record { low = of.low; high = of.high }) of.quiet_is
