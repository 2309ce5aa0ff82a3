-- What is known of a run by how far it has come. For contracts, laws and proofs: no promise uses it.
use Rattle.std.specs.Prelude.{◌≡◌, ⊤, true}
use Rattle.block_list.specs.declared.status.Status.TheVariants.{NonTried, NonTrimmed, NonScraped}
use Rattle.rescue_rules.specs.Moves.{ready, no_pass_left}
use Rattle.rescue_core.specs.RunState.{RunState, setting_in, IsGone}

-- how far a run has come: it began, or copying, trimming or scraping is over, or all is
pub data Reached : Type 0 where
  Begun : Reached
  Copied : Reached
  Trimmed : Reached
  Scraped : Reached
  Over : Reached

-- after copying no position that is left of the domain is non-tried; after trimming none is non-trimmed either,
-- unless trimming is off
pub record IsTrimmed (r : RunState) : Type 0 where
  pub tried : IsGone NonTried r
  pub trimmed : r.settings.passes.trims ≡ true → IsGone NonTrimmed r

-- after scraping a run is trimmed, and no position that is left of the domain is non-scraped, unless scraping is off
pub record IsScraped (r : RunState) : Type 0 where
  pub trimmed : IsTrimmed r
  pub scraped : r.settings.passes.scrapes ≡ true → IsGone NonScraped r

-- at the end no pass has a request left
pub record IsOver (r : RunState) : Type 0 where
  pub scraped : IsScraped r
  pub spent : no_pass_left (ready (setting_in r) r.machine).passes ≡ true

-- what is known of a run that has come this far
abbrev pub Known : Reached → RunState → Type 0
Known Begun r = ⊤
Known Copied r = IsGone NonTried r
Known Trimmed r = IsTrimmed r
Known Scraped r = IsScraped r
Known Over r = IsOver r
