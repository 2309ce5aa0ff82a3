-- What the input and the files tell before something was done, and after it.
use Rattle.faulty_source.specs.SourceState.{SourceState}
use Rattle.crash_site.specs.SiteState.{SiteState}

-- what the input and the files tell before something was done, and after it
pub record Across : Type 0 where
  pub source : SourceState
  pub source' : SourceState
  pub site : SiteState
  pub site' : SiteState

-- the record of the input and the files, before something was done and after it
abbrev pub across : (source source' : SourceState) → (site site' : SiteState) → Across
across source source' site site' = record { source = source; source' = source'; site = site; site' = site' }
