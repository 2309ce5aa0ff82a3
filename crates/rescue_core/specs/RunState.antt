-- What is known of a run between its turns. For contracts and proofs: no promise uses it.
use Rattle.std.specs.Prelude.{◌≡◌, ℕ, ◌+◌, ◌^◌, ◌<◌, ◌≤◌, Bool, true, false, List, [], length, drop, Option, is_some}
use Rattle.block_list.specs.declared.block.Range.{Range}
use Rattle.block_list.specs.declared.status.Status.{Status}
use Rattle.block_list.specs.declared.status.Status.TheVariants.{NonTrimmed}
use Rattle.block_list.specs.Map.{Has}
use Rattle.block_list.specs.declared.tiles.Tiles.{Ghosts as TilesGhosts}
use Rattle.mapfile_text.specs.declared.heading.Program.TheVariants.{Ddrescue}
use Rattle.mapfile_text.specs.declared.state.MapState.{MapState}
use Rattle.mapfile_save.specs.MapNames.{MapNames, names_in}
use Rattle.transfer_token.specs.declared.token.Request.{Request}
use Rattle.rescue_rules.specs.declared.phase.Phase.{Phase}
use Rattle.rescue_rules.specs.declared.phase.Phase.TheVariants.{Copying, Trimming, Scraping}
use Rattle.rescue_rules.specs.declared.stop.TrimMode.{TrimMode}
use Rattle.rescue_rules.specs.declared.stop.TrimMode.TheVariants.{Lead, Tail}
use Rattle.rescue_rules.specs.Setting.{Setting}
use Rattle.rescue_rules.specs.Passes.{passes_from, is_up, numbered}
use Rattle.rescue_rules.specs.Machine.{Machine, pass_of, is_live, IsRequest}
use Rattle.rescue_rules.specs.MachineLaws.{IsInOrder}
use Rattle.rescue_rules.specs.Moves.{begun}
use Rattle.rescue_rules.specs.declared.report.Counts.{Counts}
use Rattle.rescue_rules.specs.Counts.{counts_of}
use Rattle.rescue_rules.specs.Beginning.{first_pass, shown_at_first, machine_of}
use Rattle.rescue_domain.specs.Parts.{covers}
use Rattle.rescue_core.specs.declared.running.Running.{Running}
use Rattle.run_options.specs.declared.settings.Settings.{Settings}
use Rattle.run_options.specs.Settings.{IsSound, Suits}

-- A run's settings, its domain, the names of its mapfile and its draft if there is a mapfile, and the command line. The
-- phase and the pass that it is in, and how far it is. Whether it is heard: lines are asked for, and each was put.
pub record RunState : Type 0 where
  pub settings : Settings
  pub domain : List Range
  pub names : Option MapNames
  pub line : List ℕ
  pub phase : Phase
  pub pass : ℕ
  pub machine : Machine
  pub heard : Bool

-- what settings, a domain by its intervals, names and a command line ask for. A run knows neither the names of the
-- input and of the output nor the input's length, nor what the output may be, nor how its map was prepared, nor whether
-- more lines come before it.
abbrev pub setting_with : Settings → List Range → Option MapNames → List ℕ → Setting
setting_with settings domain names line = record {
  infile = [];
  outfile = [];
  forced = false;
  has_mapfile = is_some names;
  names = names_in names;
  line = line;
  end = 0;
  domain = covers domain;
  input_position = settings.input_position;
  output_position = settings.output_position;
  try_again = false;
  retrim = false;
  sector = settings.sector;
  cluster = settings.cluster;
  skips = settings.skips;
  passes = settings.passes;
  limits = settings.limits;
  verbose = false;
}

-- what a run's settings, its domain, its names and its command line ask for
abbrev pub setting_in : RunState → Setting
setting_in r = setting_with r.settings r.domain r.names r.line

-- no position that is left of the domain has this status
abbrev pub IsGone : Status → RunState → Type 0
IsGone status r = (x : ℕ) → is_live (setting_in r) r.machine x ≡ true → Has r.machine.map status x → ⊥

-- how far trimming upwards has come: to its last read, or at a range's back to what is left of that range
abbrev pub led_from : TrimMode → (cursor : ℕ) → ℕ
led_from Lead cursor = cursor
led_from (Tail low) cursor = low

-- a run that trims upwards has left nothing of the domain to trim before the place that its trimming has come to
abbrev pub IsLed : RunState → Type 0
IsLed r = r.phase ≡ Trimming → is_up (setting_in r) (numbered r.phase r.pass) ≡ true → (x : ℕ)
    → x < led_from r.machine.progress.mode r.machine.progress.cursor → is_live (setting_in r) r.machine x ≡ true
    → Has r.machine.map NonTrimmed x → ⊥

-- what holds of a run between its turns, with a buffer for `room` bytes
pub record IsRunning (r : RunState) (room : ℕ) : Type 0 where
  pub sound : IsSound r.settings
  pub suits : Suits r.settings (covers r.domain) (length r.machine.map)
  pub short : length r.machine.map < 2 ^ 63
  pub cursor : r.machine.progress.cursor ≤ length r.machine.map
  pub skip : r.machine.progress.skip ≤ r.settings.skips.most
  pub order : IsInOrder (setting_in r) r.machine
  -- the pass that it is in is one of its phase
  pub pass : pass_of r.machine ≡ numbered r.phase r.pass
  -- the phase that it is in isn't off, if that is trimming or scraping
  pub trims : r.phase ≡ Trimming → r.settings.passes.trims ≡ true
  pub scrapes : r.phase ≡ Scraping → r.settings.passes.scrapes ≡ true
  pub led : IsLed r
  -- a cluster is read at once
  pub room_is : room ≡ r.settings.cluster

-- counts are those of what is left of the domain
pub record HasCounts (r : RunState) (counts : Counts) : Type 0 where
  pub counts_are : counts ≡ counts_of (is_live (setting_in r) r.machine) r.machine.map

-- the next request of a run
abbrev pub IsNext : RunState → Request → Type 0
IsNext r request = IsRequest (setting_in r) r.machine request.pos (request.pos + request.len)

module _ {T : Type 0} where
  -- the run that a value is, as the rules have it
  abbrev pub run_of : TilesGhosts T → Running T → RunState
  run_of t r = record {
    settings = r.settings;
    domain = r.domain;
    names = r.keeper.names;
    line = r.keeper.heading.line;
    phase = r.phase;
    pass = r.progress.pass;
    machine = record {
      map = t.statuses r.tiles;
      passes = passes_from (setting_with r.settings r.domain r.keeper.names r.keeper.heading.line) r.phase
          r.progress.pass;
      progress = r.progress;
      tally = r.keeper.tally;
    };
    heard = r.keeper.heard;
  }

  -- a value that is a run between its turns
  pub record IsRun (t : TilesGhosts T) (r : Running T) : Type 0 where
    pub running : IsRunning (run_of t r) (length r.buf.items)
    pub program : r.keeper.heading.program ≡ Ddrescue
    pub counted : HasCounts (run_of t r) r.counts

-- a run at its start
abbrev pub started : Settings → List Range → Option MapNames → List ℕ → List Status → Option MapState → (moment : ℕ)
    → (heard : Bool) → RunState
started settings domain names line map loaded moment heard = record {
  settings = settings;
  domain = domain;
  names = names;
  line = line;
  phase = Copying;
  pass = first_pass loaded;
  machine = machine_of (setting_with settings domain names line) map loaded (shown_at_first loaded) moment;
  heard = heard;
}

-- a run at the start of its next pass
abbrev pub passed : RunState → Phase → ℕ → RunState
passed r phase pass = record r {
  phase = phase;
  pass = pass;
  machine = begun (setting_in r) r.machine (numbered phase pass) (drop 2 r.machine.passes);
}

-- a run that shows another state
abbrev pub run_showing : RunState → MapState → RunState
run_showing r state =
    record r { machine = record r.machine { tally = record r.machine.tally { shown = state } } }
