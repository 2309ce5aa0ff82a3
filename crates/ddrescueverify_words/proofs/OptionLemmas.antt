-- What options set, one after the other, is within limits.
use Rattle.std.proofs.Common.{◌≡◌, ℕ, ◌^◌, ◌<◌, true, false, List, Option, Some, Ok, IfSome, refl, arith}
use Rattle.std.specs.Option.{option_map}
use Rattle.size_suffixes.specs.Sectors.{IsSector}
use Rattle.option_words.specs.declared.reading.Item.{Item}
use Rattle.option_words.specs.Values.{is_given, quiet_letter, size_by}
use Rattle.option_words.proofs.KeepLemmas.{AreKept, Begins, Keeps, Kept, RowKeeps, flag_keeps, options_keep as kept_in, plain_keeps, value_keeps}
use Rattle.option_words.proofs.RowLemmas.{◌and◌, EachRow}
use Rattle.option_words.proofs.ValueLemmas.{size_by_below}
use Rattle.option_words.proofs.QuietLemmas.{or_true}
use Rattle.ddrescueverify_words.specs.declared.options.VerifyOptions.{VerifyOptions}
use Rattle.ddrescueverify_words.specs.Options.{no_options, option_meanings, option_rows, options_in}

-- the limits of the values
pub record InRange (bytes from : ℕ) (to : Option ℕ) : Type 0 where
  pub sector : IsSector bytes
  pub input : from < 2 ^ 63
  pub output : IfSome to (λ n. n < 2 ^ 63)

abbrev pub AreInRange : (sector : ℕ) → VerifyOptions → Type 0
AreInRange sector o = InRange sector o.input_position o.output_position

-- the sector of the options, their limits, and whether they ask that nothing be said
abbrev pub verify_kept : Kept VerifyOptions
verify_kept = record { sector = λ o. o.sector; InRange = AreInRange; quiet = λ o. o.quiet }

module _ (sector : ℕ) (o : VerifyOptions) (h : AreInRange sector o) where
  with_input : (n : ℕ) → n < 2 ^ 63 → AreInRange sector (record o { input_position = n })
  with_input n p = record { sector = h.sector; input = p; output = h.output }

  with_output : (n : ℕ) → n < 2 ^ 63 → AreInRange sector (record o { output_position = Some n })
  with_output n p = record { sector = h.sector; input = h.input; output = p }

input_keeps : (s : ℕ) (o o' : VerifyOptions) (v : Option (List ℕ))
    → option_map (λ n. record o { input_position = n }) (size_by s v) ≡ Some o' → Keeps verify_kept s o false o'
input_keeps s o o' v =
    value_keeps verify_kept s o o' (λ n. record o { input_position = n }) (size_by s v) (λ n. refl)
    (λ n p h. with_input s o h n (size_by_below s v n p)) (λ n. refl)

output_keeps : (s : ℕ) (o o' : VerifyOptions) (v : Option (List ℕ))
    → option_map (λ n. record o { output_position = Some n }) (size_by s v) ≡ Some o' → Keeps verify_kept s o false o'
output_keeps s o o' v =
    value_keeps verify_kept s o o' (λ n. record o { output_position = Some n }) (size_by s v) (λ n. refl)
    (λ n p h. with_output s o h n (size_by_below s v n p)) (λ n. refl)

length_keeps : (s : ℕ) (o o' : VerifyOptions) (m : Option ℕ) → option_map (λ n. record o { size = Some n }) m ≡ Some o'
    → Keeps verify_kept s o false o'
length_keeps s o o' m =
    value_keeps verify_kept s o o' (λ n. record o { size = Some n }) m (λ n. refl) (λ n p h. h) (λ n. refl)

rows_keep : EachRow (RowKeeps verify_kept) option_rows
rows_keep =
    (λ s o o' v. plain_keeps verify_kept s o o' _ refl (λ h. h) refl)
    and (λ s o o' v. input_keeps s o o' v)
    and (λ s o o' v. output_keeps s o o' v)
    and (λ s o o' v. flag_keeps verify_kept s o o' true _ refl (λ h. h) (or_true o.quiet))
    and (λ s o o' v. length_keeps s o o' (size_by s v))
    and tt

none_begins : (n : ℕ) → IsSector n → Begins verify_kept n (no_options n)
none_begins n h = record { same = refl; range = record { sector = h; input = omega arith; output = tt }; quiet_is = refl }

-- options that are accepted are in range, and say nothing where one of them asks for it
pub options_keep : (words : List (List ℕ)) (items : List Item) (o : VerifyOptions) → options_in words items ≡ Ok o
    → AreKept verify_kept o (is_given option_meanings quiet_letter items)
options_keep words items o e = kept_in verify_kept option_rows rows_keep no_options none_begins words items o e
