-- How much of a domain is finished, and how much of it failed.
use Rattle.std.specs.Prelude.{ℕ, Bool, true, false, ◌&&◌, List, length, slice_get, Option, Some, None}
use Rattle.block_list.specs.declared.status.Status.{Status}
use Rattle.block_list.specs.declared.status.Status.TheVariants.{NonTried, NonTrimmed, NonScraped, BadSector, Finished}
use Rattle.block_list.specs.Areas.{count_below, count_of}
use Rattle.rescue_rules.specs.declared.report.Counts.{Counts}

-- what failed: what is left to trim or to scrape, and bad sectors
abbrev pub has_failed : Status → Bool
has_failed NonTried = false
has_failed NonTrimmed = true
has_failed NonScraped = true
has_failed BadSector = true
has_failed Finished = false

-- what is finished
abbrev pub has_finished : Status → Bool
has_finished NonTried = false
has_finished NonTrimmed = false
has_finished NonScraped = false
has_finished BadSector = false
has_finished Finished = true

-- a position has a status that passes a test
abbrev pub passes : (Status → Bool) → Option Status → Bool
passes test None = false
passes test (Some status) = test status

-- the positions of a domain whose status passes a test
abbrev pub passing : (Status → Bool) → (domain : ℕ → Bool) → List Status → ℕ → Bool
passing test domain map x = domain x && passes test (slice_get map x)

-- how much of a domain is finished in a map, and how much of it failed, and in how many areas
abbrev pub counts_of : (domain : ℕ → Bool) → List Status → Counts
counts_of domain map = record {
  rescued = count_below (passing has_finished domain map) (length map);
  failed = count_of (passing has_failed domain map) (length map);
}
