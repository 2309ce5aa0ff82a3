-- What options set, one after the other, is within limits, and plain.
use Rattle.std.proofs.Common.{◌≡◌, ℕ, List, slice_get, Option, Some, None, Ok, refl, sym, ◌∙◌, ap, subst}
use Rattle.std.proofs.lemmas.Option.{same_Some, slice_get-map}
use Rattle.std.specs.Option.{option_map, option_and_then}
use Rattle.size_suffixes.specs.Sectors.{IsSector}
use Rattle.option_words.specs.Rows.{is_letter}
use Rattle.option_words.specs.declared.reading.Item.{Item}
use Rattle.option_words.specs.Values.{OptionRow, is_given, letter_meant, quiet_letter, row_of, set_by}
use Rattle.option_words.proofs.KeepLemmas.{AreKept, Begins, Keeps, Kept, RowKeeps, options_keep as kept_in}
use Rattle.option_words.proofs.RowLemmas.{◌and◌, EachRow, letter_given, lettered_passes, without_last}
use Rattle.option_words.proofs.ValueLemmas.{map_part}
use Rattle.ddrescue_words.specs.declared.options.Options.{Options}
use Rattle.ddrescue_words.specs.Options.{lettered_rows, sample_row, option_rows as rescue_rows, no_options as no_rescue_options}
use Rattle.ddrescue_words.proofs.OptionLemmas.{AreInRange, none_begins as none_rescued, rescue_kept, rows_keep as rescue_rows_keep}
use Rattle.ddrescueplan_words.specs.declared.options.PlanOptions.{PlanOptions}
use Rattle.ddrescueplan_words.specs.Options.{of_rescue, no_options, option_letters, option_meanings, option_row, option_rows, options_in}
use Rattle.ddrescueplan_words.specs.Command.{ArePlain}

-- plain options stay so with what options of a plan set
still_plain : (o o' : Options) → o'.min_rate ≡ o.min_rate → o'.output_position ≡ o.output_position
    → o'.limits ≡ o.limits → o'.try_again ≡ o.try_again → o'.retrim ≡ o.retrim → o'.complete_only ≡ o.complete_only
    → ArePlain o → ArePlain o'
still_plain o o' a b c d e f p = record {
  rate = a ∙ p.rate;
  output = b ∙ p.output;
  limits = c ∙ p.limits;
  try_again = d ∙ p.try_again;
  retrim = e ∙ p.retrim;
  complete = f ∙ p.complete;
}

-- an option that sets this leaves plain options plain
flag_plain : (o n o' : Options) → (ArePlain o → ArePlain n) → Some n ≡ Some o' → ArePlain o → ArePlain o'
flag_plain o n o' stays e h = subst ArePlain (same_Some n o' e) (stays h)

-- and so does one that sets this by its value
value_plain : {A : Type 0} (o o' : Options) (f : A → Options) (m : Option A) → ((x : A) → ArePlain o → ArePlain (f x))
    → option_map f m ≡ Some o' → ArePlain o → ArePlain o'
value_plain o o' f m stays e h = let p = map_part f m o' e in subst ArePlain p.2 (stays p.0 h)

-- options of a rescue are within their limits, and plain
pub record ArePlanned (sector : ℕ) (o : Options) : Type 0 where
  pub limits : AreInRange sector o
  pub plain : ArePlain o

-- the sector of the options, that they are planned, and whether they ask that nothing be said
abbrev pub plan_kept : Kept PlanOptions
plan_kept = record {
  sector = λ o. o.rescue.sector;
  InRange = λ sector o. ArePlanned sector o.rescue;
  quiet = λ o. o.rescue.quiet;
}

letter_in : (l : Option ℕ) → option_and_then (λ (r : OptionRow PlanOptions). r.letter) (option_map option_row l) ≡ l
letter_in None = refl
letter_in (Some c) = refl

-- the letter of a row is that at its place
letter_there : (row : ℕ) (l : Option ℕ) → letter_meant (slice_get option_meanings row) ≡ l
    → slice_get option_letters row ≡ l
letter_there row l e =
    sym (letter_in (slice_get option_letters row))
    ∙ ap (option_and_then (λ (r : OptionRow PlanOptions). r.letter)) (sym (slice_get-map option_row option_letters row))
    ∙ sym (letter_given option_rows row) ∙ e

row_there : (row : ℕ) (l : Option ℕ) → letter_meant (slice_get option_meanings row) ≡ l
    → slice_get option_rows row ≡ option_map option_row l
row_there row l e = slice_get-map option_row option_letters row ∙ ap (option_map option_row) (letter_there row l e)

-- an option sets what the rescue's with its letter does
pub letter_sets : (row letter sector : ℕ) (o : PlanOptions) (v : Option (List ℕ))
    → letter_meant (slice_get option_meanings row) ≡ Some letter
    → option_map of_rescue (set_by (row_of letter lettered_rows) sector o.rescue v)
    ≡ set_by (slice_get option_rows row) sector o v
letter_sets row letter sector o v e =
    ap (λ (r : Option (OptionRow Options)). option_map of_rescue (set_by r sector o.rescue v))
    (sym (without_last lettered_rows sample_row letter refl))
    ∙ ap (λ (r : Option (OptionRow PlanOptions)). set_by r sector o v) (sym (row_there row (Some letter) e))

pub no_letter_sets : (row sector : ℕ) (o : PlanOptions) (v : Option (List ℕ))
    → letter_meant (slice_get option_meanings row) ≡ None → None ≡ set_by (slice_get option_rows row) sector o v
no_letter_sets row sector o v e =
    ap (λ (r : Option (OptionRow PlanOptions)). set_by r sector o v) (sym (row_there row None e))

-- an option keeps what the rescue's with its letter does, if it leaves plain options plain
lifted : (letter : ℕ) (r : OptionRow Options) → row_of letter rescue_rows ≡ Some r → (s : ℕ) (o o' : PlanOptions)
    (v : Option (List ℕ)) → ((n : Options) → r.sets s o.rescue v ≡ Some n → ArePlain o.rescue → ArePlain n)
    → option_map of_rescue (r.sets s o.rescue v) ≡ Some o' → Keeps plan_kept s o (is_letter quiet_letter r.letter) o'
lifted letter r at s o o' v stays e =
    let p = map_part of_rescue (r.sets s o.rescue v) o' e in
    let k = lettered_passes (RowKeeps rescue_kept) rescue_rows letter r rescue_rows_keep at s o.rescue p.0 v p.1 in
    subst (Keeps plan_kept s o (is_letter quiet_letter r.letter)) p.2
    (record {
      same = k.same;
      range = λ h. record { limits = k.range h.limits; plain = stays p.0 p.1 h.plain };
      quiet_is = k.quiet_is;
    })

rows_keep : EachRow (RowKeeps plan_kept) option_rows
rows_keep =
    (λ s o o' v. lifted 98 _ refl s o o' v (λ n. flag_plain o.rescue _ n (λ p. p)))
    and (λ s o o' v. lifted 99 _ refl s o o' v (λ n. value_plain o.rescue n _ _ (λ k p. still_plain o.rescue _ refl refl refl refl refl refl p)))
    and (λ s o o' v. lifted 105 _ refl s o o' v (λ n. value_plain o.rescue n _ _ (λ k p. still_plain o.rescue _ refl refl refl refl refl refl p)))
    and (λ s o o' v. lifted 75 _ refl s o o' v (λ n. value_plain o.rescue n _ _ (λ k p. still_plain o.rescue _ refl refl refl refl refl refl p)))
    and (λ s o o' v. lifted 110 _ refl s o o' v (λ n. flag_plain o.rescue _ n (λ p. still_plain o.rescue _ refl refl refl refl refl refl p)))
    and (λ s o o' v. lifted 78 _ refl s o o' v (λ n. flag_plain o.rescue _ n (λ p. still_plain o.rescue _ refl refl refl refl refl refl p)))
    and (λ s o o' v. lifted 113 _ refl s o o' v (λ n. flag_plain o.rescue _ n (λ p. still_plain o.rescue _ refl refl refl refl refl refl p)))
    and (λ s o o' v. lifted 114 _ refl s o o' v (λ n. value_plain o.rescue n _ _ (λ k p. still_plain o.rescue _ refl refl refl refl refl refl p)))
    and (λ s o o' v. lifted 82 _ refl s o o' v (λ n. flag_plain o.rescue _ n (λ p. still_plain o.rescue _ refl refl refl refl refl refl p)))
    and (λ s o o' v. lifted 115 _ refl s o o' v (λ n. value_plain o.rescue n _ _ (λ k p. still_plain o.rescue _ refl refl refl refl refl refl p)))
    and (λ s o o' v. lifted 117 _ refl s o o' v (λ n. flag_plain o.rescue _ n (λ p. still_plain o.rescue _ refl refl refl refl refl refl p)))
    and tt

none_plain : (n : ℕ) → ArePlain (no_rescue_options n)
none_plain n = record {
  rate = refl;
  output = refl;
  limits = refl;
  try_again = refl;
  retrim = refl;
  complete = refl;
}

none_begins : (n : ℕ) → IsSector n → Begins plan_kept n (no_options n)
none_begins n h = record {
  same = refl;
  range = record { limits = (none_rescued n h).range; plain = none_plain n };
  quiet_is = refl;
}

-- options that are accepted are in range and plain, and say nothing where one of them asks for it
pub options_keep : (words : List (List ℕ)) (items : List Item) (o : PlanOptions) → options_in words items ≡ Ok o
    → AreKept plan_kept o (is_given option_meanings quiet_letter items)
options_keep words items o e = kept_in plan_kept option_rows rows_keep no_options none_begins words items o e
