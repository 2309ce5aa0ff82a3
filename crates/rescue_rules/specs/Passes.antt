-- The passes of a rescue, in order, and the direction of each.
use Rattle.std.specs.Prelude.{ℕ, ◌+◌, ◌-◌, ◌%◌, Bool, not, ◌||◌, nat_eq, List, [], ◌++◌, map, if◌then◌else◌}
use Rattle.std.specs.List.{range_with_len}
use Rattle.block_list.specs.declared.status.Status.{Status}
use Rattle.block_list.specs.declared.status.Status.TheVariants.{NonTried, NonTrimmed, NonScraped, BadSector}
use Rattle.mapfile_text.specs.declared.state.Current.{Current}
use Rattle.mapfile_text.specs.declared.state.Current.TheVariants.{Copying as NowCopying, Trimming as NowTrimming, Scraping as NowScraping, Retrying as NowRetrying}
use Rattle.rescue_rules.specs.declared.phase.Phase.{Phase}
use Rattle.rescue_rules.specs.declared.phase.Phase.TheVariants.{Copying, Trimming, Scraping, Retrying}
use Rattle.rescue_rules.specs.Setting.{Setting}

-- one pass of a phase, counted from 1
pub record Pass : Type 0 where
  pub phase : Phase
  pub number : ℕ

-- the status that a phase asks for
abbrev pub taken : Phase → Status
taken Copying = NonTried
taken Trimming = NonTrimmed
taken Scraping = NonScraped
taken Retrying = BadSector

-- what a mapfile shows in a phase
abbrev pub current_of : Phase → Current
current_of Copying = NowCopying
current_of Trimming = NowTrimming
current_of Scraping = NowScraping
current_of Retrying = NowRetrying

-- a pass with an odd number goes upwards, and with one way each does; in reverse it is the other way round
abbrev pub is_up : Setting → Pass → Bool
is_up s p =
    if s.passes.reverse
    then not (s.passes.one_way || nat_eq (p.number % 2) 1)
    else (s.passes.one_way || nat_eq (p.number % 2) 1)

-- the pass of a phase that has this number
abbrev pub numbered : Phase → ℕ → Pass
numbered phase number = record { phase = phase; number = number }

-- how many times copying goes over the input
abbrev pub copying_passes : ℕ
copying_passes = 5

-- the passes of a phase from this one on: five of copying, one of trimming and of scraping, and as many of retrying as
-- are asked for
abbrev pub passes_in : Setting → Phase → ℕ → List Pass
passes_in s Copying number = map (numbered Copying) (range_with_len number (copying_passes + 1 - number))
passes_in s Trimming number = map (numbered Trimming) (range_with_len number (2 - number))
passes_in s Scraping number = map (numbered Scraping) (range_with_len number (2 - number))
passes_in s Retrying number = map (numbered Retrying) (range_with_len number (s.passes.retries + 1 - number))

-- the passes of the phases after one: trimming and scraping unless they are off, and retrying
abbrev pub passes_after : Setting → Phase → List Pass
passes_after s Copying =
    (if s.passes.trims then passes_in s Trimming 1 else []) ++ (if s.passes.scrapes then passes_in s Scraping 1 else [])
    ++ passes_in s Retrying 1
passes_after s Trimming = (if s.passes.scrapes then passes_in s Scraping 1 else []) ++ passes_in s Retrying 1
passes_after s Scraping = passes_in s Retrying 1
passes_after s Retrying = []

-- all passes from this one of a phase on
abbrev pub passes_from : Setting → Phase → ℕ → List Pass
passes_from s phase number = passes_in s phase number ++ passes_after s phase
