-- A run that is past a phase.
use Rattle.std.proofs.Common.{◌≡◌, Bool, false, if◌then◌else◌, List, [], ◌++◌, ap, ◌∙◌}
use Rattle.rescue_rules.specs.declared.phase.Phase.TheVariants.{Copying, Trimming, Scraping, Retrying}
use Rattle.rescue_rules.specs.Passes.{Pass, passes_in}
use Rattle.rescue_core.specs.RunState.{RunState, setting_in}
use Rattle.rescue_phases.specs.Past.{IsPast}
use Rattle.rescue_phases.specs.Passing.{IsBeforePass}

-- trimming may be off, and scraping
pub past_no_trimming : (r : RunState) → IsPast Copying r → r.settings.passes.trims ≡ false → IsPast Trimming r
past_no_trimming r b off = record {
  sensible = b.sensible;
  within = b.within;
  spent = b.spent;
  left = b.left
      ∙ ap (λ (on : Bool). (if on then passes_in (setting_in r) Trimming 1 else [])
      ++ (if r.settings.passes.scrapes then passes_in (setting_in r) Scraping 1 else []) ++ passes_in (setting_in r) Retrying 1)
      off;
}

pub past_no_scraping : (r : RunState) → IsPast Trimming r → r.settings.passes.scrapes ≡ false → IsPast Scraping r
past_no_scraping r b off = record {
  sensible = b.sensible;
  within = b.within;
  spent = b.spent;
  left = b.left
      ∙ ap (λ (on : Bool). (if on then passes_in (setting_in r) Scraping 1 else []) ++ passes_in (setting_in r) Retrying 1)
      off;
}

-- each has one pass
pub past_trimming : (r : RunState) → IsBeforePass Trimming 2 r → IsPast Trimming r
past_trimming r b = record { sensible = b.sensible; within = b.within; spent = b.spent; left = b.left }

pub past_scraping : (r : RunState) → IsBeforePass Scraping 2 r → IsPast Scraping r
past_scraping r b = record { sensible = b.sensible; within = b.within; spent = b.spent; left = b.left }
