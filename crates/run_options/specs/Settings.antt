-- Settings within their limits, and domains that they suit. For contracts and proofs: no promise uses it.
use Rattle.std.specs.Prelude.{◌≡◌, ℕ, ◌+◌, ◌-◌, ◌*◌, ◌^◌, ◌<◌, ◌≤◌, Bool, true}
use Rattle.size_suffixes.specs.Sectors.{largest_cluster, largest_sector}
use Rattle.run_options.specs.declared.settings.Settings.{Settings}

-- settings within their limits
pub record IsSound (settings : Settings) : Type 0 where
  pub sector : 0 < settings.sector
  pub sector_max : settings.sector ≤ largest_sector
  pub sectors : ℕ
  pub some : 0 < sectors
  pub cluster : settings.cluster ≡ sectors * settings.sector
  pub cluster_max : settings.cluster ≤ largest_cluster
  pub skip : settings.skips.first ≤ settings.skips.most
  pub skip_max : settings.skips.most < 2 ^ 63
  pub input_position : settings.input_position < 2 ^ 63
  pub output_position : settings.output_position < 2 ^ 63
  pub retries : settings.passes.retries < 2 ^ 32

-- a domain for a map of this many positions: it begins at an input's position or past it, and ends with the map
pub record Suits (settings : Settings) (domain : ℕ → Bool) (top : ℕ) : Type 0 where
  pub from : (x : ℕ) → domain x ≡ true → settings.input_position ≤ x
  pub to : (x : ℕ) → domain x ≡ true → x < top

-- each position of the domain has a place in the output below 2^63 - 1
pub record HasPlaces (settings : Settings) (domain : ℕ → Bool) : Type 0 where
  pub low : (x : ℕ) → domain x ≡ true → x - settings.input_position + settings.output_position < 2 ^ 63 - 1
