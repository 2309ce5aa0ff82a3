-- What options set, one after the other, is within limits.
use Rattle.std.proofs.Common.{◌≡◌, ◌≢◌, ℕ, nat_eq, ◌+◌, ◌-◌, ◌*◌, ◌/◌, ◌^◌, ◌<◌, ◌≤◌, true, false, List, [], ◌∷◌, Option, Some, Ok, IfSome, refl, ap, arith}
use Rattle.std.proofs.lemmas.Nat.{div-add-mod'}
use Rattle.std.proofs.lemmas.Bool.Decides.{nat_tests}
use Rattle.std.specs.Option.{option_map, option_and_then}
use Rattle.std.specs.Result.{result_ok}
use Rattle.size_suffixes.specs.Sectors.{IsSector}
use Rattle.size_suffixes.specs.Interval.{interval}
use Rattle.block_list.specs.Types.{types_of}
use Rattle.option_words.specs.declared.reading.Item.{Item}
use Rattle.option_words.specs.Values.{is_given, is_name, number_by, quiet_letter, size_by, within_range}
use Rattle.option_words.proofs.KeepLemmas.{AreKept, Begins, Keeps, Kept, RowKeeps, flag_keeps, name_keeps, options_keep as kept_in, plain_keeps, value_keeps}
use Rattle.option_words.proofs.RowLemmas.{◌and◌, EachRow}
use Rattle.option_words.proofs.ValueLemmas.{in_range, size_by_below, then_part}
use Rattle.option_words.proofs.QuietLemmas.{or_true}
use Rattle.run_options.specs.declared.limits.AreaLimit.TheVariants.{Total}
use Rattle.ddrescue_words.specs.declared.options.Options.{Options}
use Rattle.ddrescue_words.specs.Asking.{IsSampleSize}
use Rattle.ddrescue_words.specs.Options.{area_limit_of, largest_sample, most_cluster_sectors, most_retries, no_options, option_meanings, option_rows, options_in, sample_of, skips_of}
use Rattle.ddrescue_words.proofs.SkipLemmas.{AreSkips, skips_of_are}

-- the limits of the values, except that of a cluster in bytes, which is looked at after all options
pub record InRange (bytes : ℕ) (sectors : Option ℕ) (first most from : ℕ) (to : Option ℕ) (passes : ℕ) (kib : Option ℕ)
    : Type 0 where
  pub sector : IsSector bytes
  pub cluster : IfSome sectors (λ n. 0 < n)
  pub skips : AreSkips bytes first most
  pub input : from < 2 ^ 63
  pub output : IfSome to (λ n. n < 2 ^ 63)
  pub retries : passes ≤ most_retries
  pub sample : IfSome kib IsSampleSize

abbrev pub AreInRange : (sector : ℕ) → Options → Type 0
AreInRange sector o =
    InRange sector o.cluster_sectors o.skip o.skip_max o.input_position o.output_position o.passes.retries o.sample

-- the sector of the options, their limits, and whether they ask that nothing be said
abbrev pub rescue_kept : Kept Options
rescue_kept = record { sector = λ o. o.sector; InRange = AreInRange; quiet = λ o. o.quiet }

-- what a value that was read is
within_count : (m : Option ℕ) (n : ℕ) → option_and_then (within_range 1 most_cluster_sectors) m ≡ Some n → 0 < n
within_count m n e = let p = in_range 1 most_cluster_sectors m n e in omega arith

module _ (sector : ℕ) (o : Options) (h : AreInRange sector o) where
  with_sectors : (n : ℕ) → 0 < n → AreInRange sector (record o { cluster_sectors = Some n })
  with_sectors n p = record {
    sector = h.sector;
    cluster = p;
    skips = h.skips;
    input = h.input;
    output = h.output;
    retries = h.retries;
    sample = h.sample;
  }

  with_skips : (first most : ℕ) → AreSkips sector first most
      → AreInRange sector (record o { skip = first; skip_max = most })
  with_skips first most p = record {
    sector = h.sector;
    cluster = h.cluster;
    skips = p;
    input = h.input;
    output = h.output;
    retries = h.retries;
    sample = h.sample;
  }

  with_input : (n : ℕ) → n < 2 ^ 63 → AreInRange sector (record o { input_position = n })
  with_input n p = record {
    sector = h.sector;
    cluster = h.cluster;
    skips = h.skips;
    input = p;
    output = h.output;
    retries = h.retries;
    sample = h.sample;
  }

  with_output : (n : ℕ) → n < 2 ^ 63 → AreInRange sector (record o { output_position = Some n })
  with_output n p = record {
    sector = h.sector;
    cluster = h.cluster;
    skips = h.skips;
    input = h.input;
    output = p;
    retries = h.retries;
    sample = h.sample;
  }

  with_retries : (n : ℕ) → n ≤ most_retries → AreInRange sector (record o { passes = record o.passes { retries = n } })
  with_retries n p = record {
    sector = h.sector;
    cluster = h.cluster;
    skips = h.skips;
    input = h.input;
    output = h.output;
    retries = p;
    sample = h.sample;
  }

  with_sample : (n : ℕ) → IsSampleSize n → AreInRange sector (record o { sample = Some n })
  with_sample n p = record {
    sector = h.sector;
    cluster = h.cluster;
    skips = h.skips;
    input = h.input;
    output = h.output;
    retries = h.retries;
    sample = p;
  }

min_rate_keeps : (s : ℕ) (o o' : Options) (m : Option ℕ) → option_map (λ n. record o { min_rate = n }) m ≡ Some o'
    → Keeps rescue_kept s o false o'
min_rate_keeps s o o' m =
    value_keeps rescue_kept s o o' (λ n. record o { min_rate = n }) m (λ n. refl) (λ n p h. h) (λ n. refl)

cluster_keeps : (s : ℕ) (o o' : Options) (m : Option ℕ)
    → option_map (λ n. record o { cluster_sectors = Some n }) (option_and_then (within_range 1 most_cluster_sectors) m) ≡ Some o'
    → Keeps rescue_kept s o false o'
cluster_keeps s o o' m =
    value_keeps rescue_kept s o o' (λ n. record o { cluster_sectors = Some n }) (option_and_then (within_range 1 most_cluster_sectors) m)
    (λ n. refl) (λ n p h. with_sectors s o h n (within_count m n p)) (λ n. refl)

input_keeps : (s : ℕ) (o o' : Options) (v : Option (List ℕ))
    → option_map (λ n. record o { input_position = n }) (size_by s v) ≡ Some o' → Keeps rescue_kept s o false o'
input_keeps s o o' v =
    value_keeps rescue_kept s o o' (λ n. record o { input_position = n }) (size_by s v) (λ n. refl)
    (λ n p h. with_input s o h n (size_by_below s v n p)) (λ n. refl)

output_keeps : (s : ℕ) (o o' : Options) (v : Option (List ℕ))
    → option_map (λ n. record o { output_position = Some n }) (size_by s v) ≡ Some o' → Keeps rescue_kept s o false o'
output_keeps s o o' v =
    value_keeps rescue_kept s o o' (λ n. record o { output_position = Some n }) (size_by s v) (λ n. refl)
    (λ n p h. with_output s o h n (size_by_below s v n p)) (λ n. refl)

skips_keep : (s : ℕ) (o o' : Options) (v : Option (List ℕ))
    → option_map (λ (k : ℕ × ℕ). record o { skip = k.0; skip_max = k.1 }) (option_and_then (skips_of s) v) ≡ Some o'
    → Keeps rescue_kept s o false o'
skips_keep s o o' v =
    let ordered : (k : ℕ × ℕ) → option_and_then (skips_of s) v ≡ Some k → AreSkips s k.0 k.1 =
    λ k p. let t = then_part (skips_of s) v k p in skips_of_are s t.0 k t.2 in
    value_keeps rescue_kept s o o' (λ (k : ℕ × ℕ). record o { skip = k.0; skip_max = k.1 }) (option_and_then (skips_of s) v)
    (λ k. refl) (λ k p h. with_skips s o h k.0 k.1 (ordered k p)) (λ k. refl)

retries_keep : (s : ℕ) (o o' : Options) (m : Option ℕ)
    → option_map (λ n. record o { passes = record o.passes { retries = n } }) (option_and_then (within_range 0 most_retries) m) ≡ Some o'
    → Keeps rescue_kept s o false o'
retries_keep s o o' m =
    value_keeps rescue_kept s o o' (λ n. record o { passes = record o.passes { retries = n } }) (option_and_then (within_range 0 most_retries) m) (λ n. refl)
    (λ n p h. with_retries s o h n (in_range 0 most_retries m n p).1) (λ n. refl)

sample_keeps : (s : ℕ) (o o' : Options) (v : Option (List ℕ))
    → option_map (λ n. record o { sample = Some n }) (sample_of v) ≡ Some o' → Keeps rescue_kept s o false o'
sample_keeps s o o' v =
    value_keeps rescue_kept s o o' (λ n. record o { sample = Some n }) (sample_of v) (λ n. refl)
    (λ n p h. with_sample s o h n (let r = in_range 1 largest_sample (number_by v) n p in record { low = r.0; high = r.1 }))
    (λ n. refl)

length_keeps : (s : ℕ) (o o' : Options) (m : Option ℕ) → option_map (λ n. record o { size = Some n }) m ≡ Some o'
    → Keeps rescue_kept s o false o'
length_keeps s o o' m =
    value_keeps rescue_kept s o o' (λ n. record o { size = Some n }) m (λ n. refl) (λ n p h. h) (λ n. refl)

pub limit_whole : (text : List ℕ) → ((rest : List ℕ) → text ≢ 43 ∷ rest)
    → area_limit_of text ≡ option_map Total (number_by (Some text))
limit_whole [] none = refl
limit_whole (c ∷ text) none =
    let other : c ≢ 43 = λ is. none text (ap (λ (k : ℕ). k ∷ text) is) in
    let apart : nat_eq c 43 ≡ false = grind (arith, nat_tests) in
    rw apart refl

areas_keep : (s : ℕ) (o o' : Options) (v : Option (List ℕ))
    → option_map (λ a. record o { limits = record o.limits { areas = Some a } }) (option_and_then area_limit_of v) ≡ Some o'
    → Keeps rescue_kept s o false o'
areas_keep s o o' v =
    value_keeps rescue_kept s o o' (λ a. record o { limits = record o.limits { areas = Some a } })
    (option_and_then area_limit_of v) (λ a. refl) (λ a p h. h) (λ a. refl)

time_keeps : (s : ℕ) (o o' : Options) (v : Option (List ℕ))
    → option_map (λ n. record o { limits = record o.limits { timeout = Some n } })
    (option_and_then (λ text. result_ok (interval text)) v) ≡ Some o' → Keeps rescue_kept s o false o'
time_keeps s o o' v =
    value_keeps rescue_kept s o o' (λ n. record o { limits = record o.limits { timeout = Some n } })
    (option_and_then (λ text. result_ok (interval text)) v) (λ n. refl) (λ n p h. h) (λ n. refl)

errors_keep : (s : ℕ) (o o' : Options) (m : Option ℕ)
    → option_map (λ n. record o { limits = record o.limits { errors = Some n } }) m ≡ Some o' → Keeps rescue_kept s o false o'
errors_keep s o o' m =
    value_keeps rescue_kept s o o' (λ n. record o { limits = record o.limits { errors = Some n } }) m (λ n. refl) (λ n p h. h)
    (λ n. refl)

types_keep : (s : ℕ) (o o' : Options) (v : Option (List ℕ))
    → option_map (λ t. record o { fill = Some t }) (option_and_then types_of v) ≡ Some o' → Keeps rescue_kept s o false o'
types_keep s o o' v =
    value_keeps rescue_kept s o o' (λ t. record o { fill = Some t }) (option_and_then types_of v) (λ t. refl) (λ t p h. h)
    (λ t. refl)

pub rows_keep : EachRow (RowKeeps rescue_kept) option_rows
rows_keep =
    (λ s o o' v. min_rate_keeps s o o' _)
    and (λ s o o' v. plain_keeps rescue_kept s o o' _ refl (λ h. h) refl)
    and (λ s o o' v. plain_keeps rescue_kept s o o' _ refl (λ h. h) refl)
    and (λ s o o' v. cluster_keeps s o o' (size_by s v))
    and (λ s o o' v. plain_keeps rescue_kept s o o' _ refl (λ h. h) refl)
    and (λ s o o' v. areas_keep s o o' v)
    and (λ s o o' v. plain_keeps rescue_kept s o o' _ refl (λ h. h) refl)
    and (λ s o o' v. types_keep s o o' v)
    and (λ s o o' v. plain_keeps rescue_kept s o o' _ refl (λ h. h) refl)
    and (λ s o o' v. name_keeps rescue_kept s o o' (is_name v))
    and (λ s o o' v. input_keeps s o o' v)
    and (λ s o o' v. skips_keep s o o' v)
    and (λ s o o' v. plain_keeps rescue_kept s o o' _ refl (λ h. h) refl)
    and (λ s o o' v. name_keeps rescue_kept s o o' (is_name v))
    and (λ s o o' v. plain_keeps rescue_kept s o o' _ refl (λ h. h) refl)
    and (λ s o o' v. plain_keeps rescue_kept s o o' _ refl (λ h. h) refl)
    and (λ s o o' v. plain_keeps rescue_kept s o o' _ refl (λ h. h) refl)
    and (λ s o o' v. output_keeps s o o' v)
    and (λ s o o' v. flag_keeps rescue_kept s o o' true _ refl (λ h. h) (or_true o.quiet))
    and (λ s o o' v. retries_keep s o o' (number_by v))
    and (λ s o o' v. plain_keeps rescue_kept s o o' _ refl (λ h. h) refl)
    and (λ s o o' v. length_keeps s o o' (size_by s v))
    and (λ s o o' v. time_keeps s o o' v)
    and (λ s o o' v. plain_keeps rescue_kept s o o' _ refl (λ h. h) refl)
    and (λ s o o' v. plain_keeps rescue_kept s o o' _ refl (λ h. h) refl)
    and (λ s o o' v. errors_keep s o o' (number_by v))
    and (λ s o o' v. sample_keeps s o o' v)
    and tt

default_fits : (n : ℕ) → IsSector n → (2 ^ 30 + (n - 1)) / n * n < 2 ^ 63
default_fits n h = omega (arith, div-add-mod' (2 ^ 30 + (n - 1)) n, h.high)

pub none_begins : (n : ℕ) → IsSector n → Begins rescue_kept n (no_options n)
none_begins n h = record {
  same = refl;
  range = record {
    sector = h;
    cluster = tt;
    skips = record { order = omega arith; below = default_fits n h };
    input = omega arith;
    output = tt;
    retries = omega arith;
    sample = tt;
  };
  quiet_is = refl;
}

-- options that are accepted are in range, and say nothing where one of them asks for it
pub options_keep : (words : List (List ℕ)) (items : List Item) (o : Options) → options_in words items ≡ Ok o
    → AreKept rescue_kept o (is_given option_meanings quiet_letter items)
options_keep words items o e = kept_in rescue_kept option_rows rows_keep no_options none_begins words items o e
