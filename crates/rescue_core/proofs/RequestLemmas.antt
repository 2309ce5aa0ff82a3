-- Where a pass begins, and the search of a machine that stands at a place.
use Rattle.std.proofs.Common.{◌≡◌, ℕ, Bool, true, false, List, [], ◌∷◌, length, drop, Option, refl, sym, ap, ◌∙◌}
use Rattle.std.specs.List.{slice_index_or}
use Rattle.std.proofs.lemmas.Bool.{cond-true, cond-false}
use Rattle.block_list.specs.declared.status.Status.{Status}
use Rattle.block_list.specs.declared.tiles.Tiles.{Ghosts as TilesGhosts}
use Rattle.rescue_rules.specs.declared.phase.Phase.{Phase}
use Rattle.rescue_rules.specs.declared.phase.Phase.TheVariants.{Copying, Trimming}
use Rattle.rescue_rules.specs.declared.stop.TrimMode.{TrimMode}
use Rattle.rescue_rules.specs.declared.stop.TrimMode.TheVariants.{Lead}
use Rattle.rescue_rules.specs.declared.progress.Progress.{Progress}
use Rattle.rescue_rules.specs.Setting.{Setting}
use Rattle.rescue_rules.specs.Passes.{Pass, is_up, numbered, passes_from}
use Rattle.rescue_rules.specs.Machine.{Machine, Search, pass_of, start_of, search_in, search_of}
use Rattle.rescue_core.specs.declared.running.Running.{Running}
use Rattle.rescue_core.specs.RunState.{setting_in, run_of, IsRun}
use Rattle.rescue_core.specs.Requesting.{StandsAt}

-- where a pass begins
pub start_up : (s : Setting) (p : Pass) (map : List Status) → is_up s p ≡ true → start_of s p map ≡ 0
start_up s p map is = cond-true (is_up s p) 0 (length map) is

pub start_down : (s : Setting) (p : Pass) (map : List Status) → is_up s p ≡ false → start_of s p map ≡ length map
start_down s p map is = cond-false (is_up s p) 0 (length map) is

-- a run stands at its place
leads_by : (s : Setting) (phase : Phase) (number : ℕ) (ps : List Pass) → ps ≡ passes_from s phase number
    → slice_index_or ps 0 (numbered Copying 1) ≡ numbered phase number → ps ≡ numbered phase number ∷ drop 1 ps
leads_by s phase number [] are is =
    let some : passes_from s Copying 1 ≡ [] = ap (λ (p : Pass). passes_from s p.phase p.number) is ∙ sym are in absurd (cc)
leads_by s phase number (p ∷ ps) are is = ap (λ (q : Pass). q ∷ ps) is

pub stands : {T : Type 0} (t : TilesGhosts T) (r : Running T) → IsRun t r
    → StandsAt (run_of t r).machine r.phase r.progress (t.statuses r.tiles) r.keeper.tally.over
stands t r is =
    record {
      passes = leads_by (setting_in (run_of t r)) r.phase r.progress.pass (run_of t r).machine.passes refl
          is.running.pass;
      progress_is = refl;
      map = refl;
      over = refl;
    }

-- the pass of a machine that stands at a place
pub pass_is : (m : Machine) (phase : Phase) (progress : Progress) (map : List Status) {over : Option ℕ}
    → StandsAt m phase progress map over
    → pass_of m ≡ numbered phase progress.pass
pass_is m phase progress map stands = ap (λ (ps : List Pass). slice_index_or ps 0 (numbered Copying 1)) stands.passes

-- its search: from its cursor, or before a range in trimming
abbrev from_cursor : Bool → (cursor size : ℕ) → Search
from_cursor up cursor size = record { up = up; from = cursor; front = up; size = size }

abbrev from_start : Bool → (start size : ℕ) → Search
from_start up start size = record { up = up; from = start; front = true; size = size }

search_is : (s : Setting) (m : Machine) (phase at : Phase) (progress : Progress) (map : List Status) {over : Option ℕ}
    → StandsAt m phase progress map over
    → phase ≡ at → search_of s m ≡ search_in s m at progress.mode
search_is s m phase at progress map stands is =
    ap (λ (p : Pass). search_in s m p.phase m.progress.mode) (pass_is m phase progress map stands)
    ∙ ap (λ (mode : TrimMode). search_in s m phase mode) (ap (λ (q : Progress). q.mode) stands.progress_is)
    ∙ ap (λ (p : Phase). search_in s m p progress.mode) is

pub cursor_search : (s : Setting) (m : Machine) (phase at : Phase) (progress : Progress) (map : List Status) (most : ℕ) (up : Bool)
    {over : Option ℕ} → StandsAt m phase progress map over → phase ≡ at
    → search_in s m at progress.mode ≡ from_cursor (is_up s (pass_of m)) m.progress.cursor most
    → up ≡ is_up s (numbered phase progress.pass) → from_cursor up progress.cursor most ≡ search_of s m
cursor_search s m phase at progress map most up stands is found goes =
    ap (λ (b : Bool). from_cursor b progress.cursor most) (goes ∙ ap (is_up s) (sym (pass_is m phase progress map stands)))
    ∙ ap (λ (x : ℕ). from_cursor (is_up s (pass_of m)) x most) (ap (λ (q : Progress). q.cursor) (sym stands.progress_is))
    ∙ sym found
    ∙ sym (search_is s m phase at progress map stands is)

pub lead_search : (s : Setting) (m : Machine) (phase : Phase) (progress : Progress) (map : List Status) (start : ℕ) (up : Bool)
    {over : Option ℕ} → StandsAt m phase progress map over → phase ≡ Trimming → progress.mode ≡ Lead → up ≡ is_up s (numbered phase progress.pass)
    → start ≡ start_of s (numbered phase progress.pass) map → from_start up start s.sector ≡ search_of s m
lead_search s m phase progress map start up stands is lead goes begins =
    ap (λ (b : Bool). from_start b start s.sector) (goes ∙ ap (is_up s) (sym (pass_is m phase progress map stands)))
    ∙ ap (λ (x : ℕ). from_start (is_up s (pass_of m)) x s.sector)
    (begins ∙ ap (λ (statuses : List Status). start_of s (numbered phase progress.pass) statuses) (sym stands.map)
    ∙ ap (λ (p : Pass). start_of s p m.map) (sym (pass_is m phase progress map stands)))
    ∙ ap (λ (mode : TrimMode). search_in s m Trimming mode) (sym lead)
    ∙ sym (search_is s m phase Trimming progress map stands is)
