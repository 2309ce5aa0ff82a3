-- Types: statuses by their characters, as options list them.
use Rattle.std.specs.Prelude.{◌≡◌, ◌≢◌, ℕ, Bool, not, ◌&&◌, List, [], All, MatchOption, length, nat_eq, Option, Some, None, is_some, if◌then◌else◌}
use Rattle.std.specs.List.{list_any, list_all}
use Rattle.block_list.specs.declared.status.Status.{Status}
use Rattle.block_list.specs.declared.status.Status.TheVariants.{NonTried, NonTrimmed, NonScraped, BadSector, Finished}
use Rattle.block_list.specs.declared.types.TypeSet.{TypeSet}
use Rattle.block_list.specs.Status.{symbol, status_of_symbol}

-- a text is types: it isn't empty, and each of its characters is a status's
abbrev pub is_types : List ℕ → Bool
is_types text = not (nat_eq (length text) 0) && list_all (λ c. is_some (status_of_symbol c)) text

-- a text has the character of a status
abbrev pub has_symbol : List ℕ → Status → Bool
has_symbol text s = list_any (nat_eq (symbol s)) text

-- the types that a text lists, in any order and as often as it will, if it is types
abbrev pub types_of : List ℕ → Option TypeSet
types_of text =
    if is_types text then Some (record {
      non_tried = has_symbol text NonTried;
      non_trimmed = has_symbol text NonTrimmed;
      non_scraped = has_symbol text NonScraped;
      bad_sector = has_symbol text BadSector;
      finished = has_symbol text Finished;
    })
    else None

-- a status is one of some types
abbrev pub has_type : TypeSet → Status → Bool
has_type t NonTried = t.non_tried
has_type t NonTrimmed = t.non_trimmed
has_type t NonScraped = t.non_scraped
has_type t BadSector = t.bad_sector
has_type t Finished = t.finished

-- a text has at least one character, and each is that of a status
pub record AreTypes (text : List ℕ) : Type 0 where
  pub some : text ≢ []
  pub each : All (λ c. (s : Status) × (c ≡ symbol s)) text

-- what types are of a text: a status is one of them if the text has its character; a text with none is no types
abbrev pub TypesAreCharacters : Type 0
TypesAreCharacters = (text : List ℕ) →
    MatchOption (types_of text) (AreTypes text → ⊥)
    (λ t. AreTypes text × ((s : Status) → has_type t s ≡ has_symbol text s))
