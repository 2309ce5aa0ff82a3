-- How many positions have each status. For contracts and proofs: no promise uses it.
use Rattle.std.specs.Prelude.{ℕ}
use Rattle.block_list.specs.declared.status.Status.{Status}
use Rattle.block_list.specs.declared.status.Status.TheVariants.{NonTried, NonTrimmed, NonScraped, BadSector, Finished}
use Rattle.block_pages.specs.declared.status_counts.StatusCounts.{StatusCounts}

-- how many positions a tally has for a status
abbrev pub tallied : StatusCounts → Status → ℕ
tallied t NonTried = t.non_tried
tallied t NonTrimmed = t.non_trimmed
tallied t NonScraped = t.non_scraped
tallied t BadSector = t.bad_sector
tallied t Finished = t.finished
