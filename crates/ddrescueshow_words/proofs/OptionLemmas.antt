-- What options set, one after another, is within limits.
use Rattle.std.proofs.Common.{◌≡◌, ℕ, ◌^◌, ◌<◌, ◌≤◌, true, false, List, Option, Some, Ok, refl, arith}
use Rattle.std.specs.Option.{option_map, option_and_then}
use Rattle.size_suffixes.specs.Sectors.{IsSector}
use Rattle.option_words.specs.declared.reading.Item.{Item}
use Rattle.option_words.specs.Values.{is_given, is_name, number_by, quiet_letter, size_by, within_range}
use Rattle.option_words.proofs.KeepLemmas.{AreKept, Begins, Keeps, Kept, RowKeeps, flag_keeps, name_keeps, options_keep as kept_in, plain_keeps, value_keeps}
use Rattle.option_words.proofs.RowLemmas.{◌and◌, EachRow}
use Rattle.option_words.proofs.ValueLemmas.{in_range, size_by_below}
use Rattle.option_words.proofs.QuietLemmas.{or_true}
use Rattle.ddrescueshow_words.specs.declared.options.Coloring.{Coloring}
use Rattle.ddrescueshow_words.specs.declared.options.ShowOptions.{ShowOptions}
use Rattle.ddrescueshow_words.specs.Options.{coloring_by, no_options, option_meanings, option_rows, options_in}

-- the limits of the values
pub record InRange (bytes from cells most : ℕ) : Type 0 where
  pub sector : IsSector bytes
  pub input : from < 2 ^ 63
  pub width : (1 ≤ cells) × (cells ≤ 1000)
  pub rows : (1 ≤ most) × (most ≤ 1000)

abbrev pub AreInRange : (sector : ℕ) → ShowOptions → Type 0
AreInRange sector o = InRange sector o.input_position o.width o.rows

-- the sector of the options, their limits, and whether they ask that nothing be said
abbrev pub show_kept : Kept ShowOptions
show_kept = record { sector = λ o. o.sector; InRange = AreInRange; quiet = λ o. o.quiet }

module _ (sector : ℕ) (o : ShowOptions) (h : AreInRange sector o) where
  with_input : (n : ℕ) → n < 2 ^ 63 → AreInRange sector (record o { input_position = n })
  with_input n p = record { sector = h.sector; input = p; width = h.width; rows = h.rows }

  with_width : (n : ℕ) → (1 ≤ n) × (n ≤ 1000) → AreInRange sector (record o { width = n })
  with_width n p = record { sector = h.sector; input = h.input; width = p; rows = h.rows }

  with_rows : (n : ℕ) → (1 ≤ n) × (n ≤ 1000) → AreInRange sector (record o { rows = n })
  with_rows n p = record { sector = h.sector; input = h.input; width = h.width; rows = p }

input_keeps : (s : ℕ) (o o' : ShowOptions) (v : Option (List ℕ))
    → option_map (λ n. record o { input_position = n }) (size_by s v) ≡ Some o' → Keeps show_kept s o false o'
input_keeps s o o' v =
    value_keeps show_kept s o o' (λ n. record o { input_position = n }) (size_by s v) (λ n. refl)
    (λ n p h. with_input s o h n (size_by_below s v n p)) (λ n. refl)

width_keeps : (s : ℕ) (o o' : ShowOptions) (m : Option ℕ)
    → option_map (λ n. record o { width = n }) (option_and_then (within_range 1 1000) m) ≡ Some o' → Keeps show_kept s o false o'
width_keeps s o o' m =
    value_keeps show_kept s o o' (λ n. record o { width = n }) (option_and_then (within_range 1 1000) m) (λ n. refl)
    (λ n p h. with_width s o h n (in_range 1 1000 m n p)) (λ n. refl)

limit_keeps : (s : ℕ) (o o' : ShowOptions) (m : Option ℕ)
    → option_map (λ n. record o { rows = n }) (option_and_then (within_range 1 1000) m) ≡ Some o' → Keeps show_kept s o false o'
limit_keeps s o o' m =
    value_keeps show_kept s o o' (λ n. record o { rows = n }) (option_and_then (within_range 1 1000) m) (λ n. refl)
    (λ n p h. with_rows s o h n (in_range 1 1000 m n p)) (λ n. refl)

length_keeps : (s : ℕ) (o o' : ShowOptions) (m : Option ℕ) → option_map (λ n. record o { size = Some n }) m ≡ Some o'
    → Keeps show_kept s o false o'
length_keeps s o o' m =
    value_keeps show_kept s o o' (λ n. record o { size = Some n }) m (λ n. refl) (λ n p h. h) (λ n. refl)

color_keeps : (s : ℕ) (o o' : ShowOptions) (m : Option Coloring)
    → option_map (λ c. record o { coloring = c }) m ≡ Some o' → Keeps show_kept s o false o'
color_keeps s o o' m =
    value_keeps show_kept s o o' (λ c. record o { coloring = c }) m (λ c. refl) (λ c p h. h) (λ c. refl)

rows_keep : EachRow (RowKeeps show_kept) option_rows
rows_keep =
    (λ s o o' v. plain_keeps show_kept s o o' _ refl (λ h. h) refl)
    and (λ s o o' v. input_keeps s o o' v)
    and (λ s o o' v. plain_keeps show_kept s o o' _ refl (λ h. h) refl)
    and (λ s o o' v. name_keeps show_kept s o o' (is_name v))
    and (λ s o o' v. flag_keeps show_kept s o o' true _ refl (λ h. h) (or_true o.quiet))
    and (λ s o o' v. length_keeps s o o' (size_by s v))
    and (λ s o o' v. color_keeps s o o' (coloring_by v))
    and (λ s o o' v. limit_keeps s o o' (number_by v))
    and (λ s o o' v. plain_keeps show_kept s o o' _ refl (λ h. h) refl)
    and (λ s o o' v. width_keeps s o o' (number_by v))
    and tt

none_begins : (n : ℕ) → IsSector n → Begins show_kept n (no_options n)
none_begins n h = record {
  same = refl;
  range = record {
    sector = h;
    input = omega arith;
    width = (omega arith, omega arith);
    rows = (omega arith, omega arith);
  };
  quiet_is = refl;
}

-- options that are accepted are in range, and say nothing where one of them asks for it
pub options_keep : (words : List (List ℕ)) (items : List Item) (o : ShowOptions) → options_in words items ≡ Ok o
    → AreKept show_kept o (is_given option_meanings quiet_letter items)
options_keep words items o e = kept_in show_kept option_rows rows_keep no_options none_begins words items o e
