-- A run that is under way, and what it leaves that goes on to its end from there.
use Rattle.std.specs.Prelude.{◌≡◌, ℕ, ◌<◌, true, false, Contains, List, ◌∷◌, ◌++◌, length, drop}
use Rattle.block_list.specs.declared.status.Status.TheVariants.{NonTrimmed, NonScraped, BadSector, Finished}
use Rattle.block_list.specs.Map.{Has}
use Rattle.rescue_rules.specs.declared.phase.Phase.TheVariants.{Copying, Trimming, Scraping, Retrying}
use Rattle.rescue_rules.specs.Setting.{Setting}
use Rattle.rescue_rules.specs.Passes.{Pass, taken, numbered, copying_passes, passes_from}
use Rattle.rescue_rules.specs.Machine.{Machine, is_live, search_of, is_ahead}
use Rattle.rescue_rules.specs.MachineLaws.{IsInOrder}
use Rattle.rescue_rules.specs.Step.{Event, is_trimming}
use Rattle.rescue_rules.specs.Moves.{moves, state_after}
use Rattle.run_laws.specs.Endings.{FailedInPass}

-- A pass still comes to a position: it is the present one and the position lies ahead (in trimming each does, since
-- that goes back to the map's start), or it is a later one.
pub data StillComes (s : Setting) (m : Machine) (p : Pass) (x : ℕ) : Type 0 where
  Now : (ps : List Pass) → m.passes ≡ p ∷ ps → (is_trimming m ≡ false → is_ahead (search_of s m) x ≡ true)
      → StillComes s m p x
  Later : Contains (drop 1 m.passes) p → StillComes s m p x

-- a pass still comes to all that is left of the domain and has the status that it asks for
abbrev pub IsToCome : Setting → Machine → Pass → Type 0
IsToCome s m p = (x : ℕ) → is_live s m x ≡ true → Has m.map (taken p.phase) x → StillComes s m p x

-- A run is under way: its mode fits, and its passes are those after some of a run's. Copying's last pass still comes to
-- what is non-tried, and trimming and scraping to what is left for them, unless they are off.
pub record IsUnderWay (s : Setting) (m : Machine) : Type 0 where
  pub order : IsInOrder s m
  pub first : ℕ
  pub past : List Pass
  pub passes : past ++ m.passes ≡ passes_from s Copying first
  pub tried : IsToCome s m (numbered Copying copying_passes)
  pub trimmed : s.passes.trims ≡ true → IsToCome s m (numbered Trimming 1)
  pub scraped : s.passes.scrapes ≡ true → IsToCome s m (numbered Scraping 1)

-- What events leave of a position, from a state on. It is rescued; or it wasn't trimmed, and trimming is off; or it
-- wasn't scraped, and scraping is off; or it is bad, and failed once more in each pass of retrying that still came to
-- it.
pub data IsLeftWellSince (s : Setting) (m : Machine) (events : List Event) (x : ℕ) : Type 0 where
  Rescued : Has (state_after s m events).map Finished x → IsLeftWellSince s m events x
  Untrimmed : s.passes.trims ≡ false → Has (state_after s m events).map NonTrimmed x → IsLeftWellSince s m events x
  Unscraped : s.passes.scrapes ≡ false → Has (state_after s m events).map NonScraped x → IsLeftWellSince s m events x
  Bad : Has (state_after s m events).map BadSector x
      → ((n : ℕ) → StillComes s m (numbered Retrying n) x → FailedInPass (numbered Retrying n) (moves s m events) x)
      → IsLeftWellSince s m events x

-- events from a state on leave each position well that is still in the domain
pub record EndsWellSince (s : Setting) (m : Machine) (events : List Event) : Type 0 where
  pub each : (x : ℕ) → is_live s (state_after s m events) x ≡ true → x < length m.map → IsLeftWellSince s m events x
