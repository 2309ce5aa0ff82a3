-- What is known of a sweep between its pieces. For contracts and proofs: no promise uses it.
use Rattle.std.specs.Prelude.{ℕ, ◌+◌, Bool, List, length, Some}
use Rattle.block_list.specs.declared.block.Range.{Range}
use Rattle.block_list.specs.declared.status.Status.{Status}
use Rattle.mapfile_text.specs.declared.state.Current.{Current}
use Rattle.mapfile_save.specs.MapNames.{MapNames, names_in}
use Rattle.rescue_domain.specs.Parts.{covers}
use Rattle.rescue_rules.specs.Setting.{Setting}
use Rattle.rescue_rules.specs.declared.tally.Tally.{Tally}
use Rattle.rescue_rules.specs.Step.{tally_at}
use Rattle.run_options.specs.declared.settings.Settings.{Settings}
use Rattle.run_options.specs.Settings.{IsSound, Suits, HasPlaces}
use Rattle.rescue_core.specs.declared.keeper.Keeper.{Keeper}
use Rattle.rescue_core.specs.RunState.{setting_with}
use Rattle.sweep_rules.specs.Sweep.{Sweep}
use Rattle.fill_generate.specs.declared.mode.SweepMode.{SweepMode}

-- a sweep's settings, its domain, the names of its mapfile and of its draft, the command line, what kind of sweep it is
-- and where it is; and whether it is heard: lines are asked for, and each was put
pub record SweepState : Type 0 where
  pub settings : Settings
  pub domain : List Range
  pub names : MapNames
  pub line : List ℕ
  pub mode : SweepMode
  pub sweep : Sweep
  pub heard : Bool

-- what settings, a domain by its intervals, names and a command line ask for
abbrev pub setting_for : Settings → List Range → MapNames → List ℕ → Setting
setting_for settings domain names line = setting_with settings domain (Some names) line

-- what a sweep's settings, its domain, its names and its command line ask for
abbrev pub setting_of : SweepState → Setting
setting_of r = setting_for r.settings r.domain r.names r.line

-- where a sweep is, from its parts
abbrev pub sweep_at : List Status → (cursor : ℕ) → Tally → Sweep
sweep_at map cursor tally = record { map = map; cursor = cursor; tally = tally }

-- the sweep that these parts make
abbrev pub state_at : Settings → List Range → List Status → SweepMode → (cursor : ℕ) → Keeper → SweepState
state_at settings domain map mode cursor keeper = record {
  settings = settings;
  domain = domain;
  names = names_in keeper.names;
  line = keeper.heading.line;
  mode = mode;
  sweep = sweep_at map cursor keeper.tally;
  heard = keeper.heard;
}

-- settings of a sweep within their limits, and a domain that lies in its map and has places in the output
pub record CanSweep (settings : Settings) (domain : List Range) (map : List Status) : Type 0 where
  pub sound : IsSound settings
  pub suits : Suits settings (covers domain) (length map)
  pub places : HasPlaces settings (covers domain)

-- what holds of a sweep between its pieces
abbrev pub IsSweeping : SweepState → Type 0
IsSweeping r = CanSweep r.settings r.domain r.sweep.map

-- this sweep at another state
abbrev pub standing : SweepState → Sweep → SweepState
standing r m = record r { sweep = m }

-- where a sweep over a map is after a piece that it marked in it
abbrev pub moved : Current → Sweep → (pos len written after : ℕ) → Sweep
moved current m pos len written after = record {
  map = m.map;
  cursor = pos + len;
  tally = tally_at m.tally (record { pos = pos + len; current = current; pass = 1 }) written after;
}
