-- The passes after copying, one after another. For contracts and proofs: no promise uses it.
use Rattle.std.specs.Prelude.{◌≡◌, ⊤, ℕ, ◌≤◌, false, drop, None}
use Rattle.block_list.specs.declared.status.Status.TheVariants.{NonTrimmed, NonScraped}
use Rattle.rescue_rules.specs.declared.phase.Phase.{Phase}
use Rattle.rescue_rules.specs.declared.phase.Phase.TheVariants.{Copying, Trimming, Scraping, Retrying}
use Rattle.rescue_rules.specs.Setting.{Setting, IsSensible}
use Rattle.rescue_rules.specs.Passes.{passes_from}
use Rattle.rescue_rules.specs.Machine.{has_request}
use Rattle.rescue_rules.specs.Step.{limit_met}
use Rattle.rescue_core.specs.RunState.{RunState, setting_in, IsGone}

-- a phase after copying has a pass with this number
abbrev pub IsPassOf : Setting → Phase → ℕ → Type 0
IsPassOf s Copying number = ⊥
IsPassOf s Trimming number = number ≡ 1
IsPassOf s Scraping number = number ≡ 1
IsPassOf s Retrying number = number ≤ s.passes.retries

-- after trimming no position of the domain is non-trimmed, and after scraping none is non-scraped
abbrev pub PhaseLeavesNone : Phase → RunState → Type 0
PhaseLeavesNone Copying r = ⊤
PhaseLeavesNone Trimming r = IsGone NonTrimmed r
PhaseLeavesNone Scraping r = IsGone NonScraped r
PhaseLeavesNone Retrying r = ⊤

-- A run that has met no limit, and whose pass has no request left: those that follow are the passes from this one of a
-- phase on.
pub record IsBeforePass (phase : Phase) (number : ℕ) (r : RunState) : Type 0 where
  pub sensible : IsSensible (setting_in r)
  pub within : limit_met (setting_in r) r.machine ≡ None
  pub spent : has_request (setting_in r) r.machine ≡ false
  pub left : drop 1 r.machine.passes ≡ passes_from (setting_in r) phase number
