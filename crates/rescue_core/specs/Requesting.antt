-- How a run comes to its next request. For contracts and proofs: no promise uses it.
use Rattle.std.specs.Prelude.{◌≡◌, ℕ, Bool, true, List, ◌∷◌, drop, Option}
use Rattle.block_list.specs.declared.status.Status.{Status}
use Rattle.rescue_rules.specs.declared.phase.Phase.{Phase}
use Rattle.rescue_rules.specs.declared.progress.Progress.{Progress}
use Rattle.rescue_rules.specs.declared.phase.Phase.TheVariants.{Trimming}
use Rattle.rescue_rules.specs.declared.stop.TrimMode.TheVariants.{Lead}
use Rattle.rescue_rules.specs.Passes.{is_up, numbered}
use Rattle.rescue_rules.specs.Machine.{Machine, Search as RulesSearch, is_live, is_ahead, IsNextRange, cut_start, cut_end}
use Rattle.rescue_core.specs.declared.request.Search.{Search}
use Rattle.rescue_core.specs.RunState.{RunState, setting_in}
use Rattle.rescue_domain.specs.Search.{IsMarked}

-- a search, as the rules have it
abbrev pub search_by : Search → RulesSearch
search_by f = record { up = f.up; from = f.from; front = f.front; size = f.size }

-- a machine is at a place of a phase, over a map, and this is where the input was found to end, if it was
pub record StandsAt (m : Machine) (phase : Phase) (progress : Progress) (statuses : List Status) (end : Option ℕ)
    : Type 0 where
  pub passes : m.passes ≡ numbered phase progress.pass ∷ drop 1 m.passes
  pub progress_is : m.progress ≡ progress
  pub map : m.map ≡ statuses
  pub over : m.tally.over ≡ end

-- what is cut of the next range of a search, from p up to q: a range of positions of a domain that have a status
pub record IsCutOf (f : RulesSearch) (sector : ℕ) (domain : ℕ → Bool) (map : List Status) (status : Status)
    (p q : ℕ) : Type 0 where
  pub start : ℕ
  pub end : ℕ
  pub range : IsNextRange f.up (IsMarked domain map status) f.from start end
  pub starts : p ≡ cut_start f sector start end
  pub ends : q ≡ cut_end f sector start end

-- this is cut of the next range of a run's positions that have a status
abbrev pub Cuts : RunState → RulesSearch → Status → (p q : ℕ) → Type 0
Cuts r f status p q = IsCutOf f r.settings.sector (is_live (setting_in r) r.machine) r.machine.map status p q

-- a search finds no position of a run that has a status
abbrev pub FindsNone : RunState → RulesSearch → Status → Type 0
FindsNone r f status = (x : ℕ) → is_ahead f x ≡ true
    → IsMarked (is_live (setting_in r) r.machine) r.machine.map status x → ⊥

-- a run trims upwards, and is before a range
pub record LeadsUp (r : RunState) : Type 0 where
  pub phase : r.phase ≡ Trimming
  pub mode : r.machine.progress.mode ≡ Lead
  pub up : is_up (setting_in r) (numbered r.phase r.pass) ≡ true
