-- A run begins with what options ask for.
use Rattle.std.proofs.Common.{◌≡◌, ℕ, ◌+◌, ◌-◌, ◌*◌, ◌/◌, ◌<◌, ◌≤◌, ◌^◌, Bool, true, List, Option, Some, None, IfSome, unwrap_or, refl, sym, ◌∙◌, arith, subst}
use Rattle.std.proofs.Math.Nat.{div-mul-le_self, le-div_iff_mul-le, mul-le-mul_right}
use Rattle.block_list.specs.declared.block.Range.{Range}
use Rattle.block_list.specs.declared.status.Status.{Status}
use Rattle.rescue_domain.specs.Domain.{whole_domain, in_map}
use Rattle.rescue_domain.specs.Parts.{covers}
use Rattle.run_options.specs.declared.settings.Settings.{Settings}
use Rattle.run_options.specs.Settings.{IsSound as SettingsSound, Suits, HasPlaces}
use Rattle.ddrescue_words.specs.declared.options.Options.{Options}
use Rattle.ddrescue_words.specs.Options.{sectors_of}
use Rattle.ddrescue_words.specs.Asking.{AreInLimits}
use Rattle.rescue_domain.proofs.PlaceLemmas.{whole_from}
use Rattle.task_files.specs.Asked.{Maps, ArePlacedBy, in_list, domain_asked}
use Rattle.task_files.specs.Settings.{settings_by}

below_limit : (output : Option ℕ) (input : ℕ) → input < 2 ^ 63 → IfSome output (λ n. n < 2 ^ 63) → unwrap_or output input < 2 ^ 63
below_limit None input low given = low
below_limit (Some n) input low given = given

rounded_up : (b n m : ℕ) → 0 < b → n ≤ m → (n + (b - 1)) / b * b ≤ (m + (b - 1)) / b * b
rounded_up b n m some le =
    let below : (n + (b - 1)) / b * b ≤ m + (b - 1) = omega (arith, le, div-mul-le_self (n + (b - 1)) b) in
    mul-le-mul_right b ((le-div_iff_mul-le some).1 below)

settings_sound : (o : Options) → AreInLimits o → SettingsSound (settings_by o)
settings_sound o limits = record {
  sector = limits.sector;
  sector_max = limits.sector_max;
  sectors = sectors_of o o.cluster_sectors;
  some = limits.sectors;
  cluster = refl;
  cluster_max = limits.cluster_max;
  skip = rounded_up o.sector o.skip o.skip_max limits.sector limits.skip;
  skip_max = limits.skip_max;
  input_position = limits.input_position;
  output_position = below_limit o.output_position o.input_position limits.input_position limits.output_position;
  retries = omega (arith, limits.retries);
}

pub sound_settings : (settings : Settings) (o : Options) → settings ≡ settings_by o → AreInLimits o → SettingsSound settings
sound_settings settings o is limits = subst SettingsSound (sym is) (settings_sound o limits)

whole_below : (pos : ℕ) (size : Option ℕ) (end top x : ℕ) → end ≤ top → whole_domain pos size end x ≡ true → x < top
whole_below pos size end top x long inside = grind (arith, long, inside)

in_map_in : (domain : ℕ → Bool) (map : Option (List Status)) (x : ℕ) → in_map domain map x ≡ true → domain x ≡ true
in_map_in domain None x inside = inside
in_map_in domain (Some statuses) x inside = grind (arith, inside)

in_list_in : (domain : ℕ → Bool) (listed : Option (ℕ × ℕ)) (x : ℕ) → in_list domain listed x ≡ true → domain x ≡ true
in_list_in domain None x inside = inside
in_list_in domain (Some k) x inside = grind (arith, inside)

-- maps only leave positions out
pub asked_in_whole : (o : Options) (end : ℕ) (maps : Maps) (x : ℕ) → domain_asked o end maps x ≡ true
    → whole_domain o.input_position o.size end x ≡ true
asked_in_whole o end maps x inside =
    in_map_in (whole_domain o.input_position o.size end) maps.domain x
    (in_list_in (in_map (whole_domain o.input_position o.size end) maps.domain) maps.listed x inside)

-- the domain that options and maps ask for, as a run has it
abbrev pub IsAsked : Options → ℕ → Maps → List Range → Type 0
IsAsked o end maps domain = (x : ℕ) → covers domain x ≡ domain_asked o end maps x

-- it has no position but those that options ask for
asked_whole : (o : Options) (end : ℕ) (maps : Maps) (domain : List Range) (x : ℕ) → IsAsked o end maps domain
    → covers domain x ≡ true → whole_domain o.input_position o.size end x ≡ true
asked_whole o end maps domain x asked inside = asked_in_whole o end maps x (sym (asked x) ∙ inside)

-- it suits a map that reaches the input's end
pub asked_suits : (settings : Settings) (domain : List Range) (o : Options) (end : ℕ) (maps : Maps) (top : ℕ)
    → settings ≡ settings_by o → IsAsked o end maps domain → end ≤ top → Suits settings (covers domain) top
asked_suits settings domain o end maps top is asked long =
    subst (λ (t : Settings). Suits t (covers domain) top) (sym is)
    (record {
      from = λ x inside. whole_from o.input_position o.size end x (asked_whole o end maps domain x asked inside);
      to = λ x inside.
          whole_below o.input_position o.size end top x long (asked_whole o end maps domain x asked inside);
    })

-- and each of its positions has a place in the output
pub asked_placed : (settings : Settings) (domain : List Range) (o : Options) (end : ℕ) (maps : Maps)
    → settings ≡ settings_by o → ArePlacedBy o end → IsAsked o end maps domain → HasPlaces settings (covers domain)
asked_placed settings domain o end maps is placed asked =
    subst (λ (t : Settings). HasPlaces t (covers domain)) (sym is)
    (record { low = λ x inside. placed x (asked_whole o end maps domain x asked inside) })
