-- The character that a mapfile has for each status.
use Rattle.std.specs.Prelude.{ℕ, Bool, Option, Some, None, nat_eq, if◌then◌else◌}
use Rattle.block_list.specs.declared.status.Status.{Status}
use Rattle.block_list.specs.declared.status.Status.TheVariants.{NonTried, NonTrimmed, NonScraped, BadSector, Finished}

-- the character that a mapfile has for a status, one of ? * / - +
abbrev pub symbol : Status → ℕ
symbol NonTried = 63
symbol NonTrimmed = 42
symbol NonScraped = 47
symbol BadSector = 45
symbol Finished = 43

-- the status that a character is for, if it is one of the five
abbrev pub status_of_symbol : ℕ → Option Status
status_of_symbol c =
    if nat_eq c 63 then Some NonTried
    else if nat_eq c 42 then Some NonTrimmed
    else if nat_eq c 47 then Some NonScraped
    else if nat_eq c 45 then Some BadSector
    else if nat_eq c 43 then Some Finished
    else None

-- two statuses are the same
abbrev pub same : Status → Status → Bool
same s t = nat_eq (symbol s) (symbol t)
