-- How much of a domain has some statuses, and how much has each one: `-t`. There each position of the domain lies below
-- the map's end.
use Rattle.std.specs.Prelude.{ℕ, ◌-◌, Bool, ◌&&◌, List, [], ◌∷◌, length, map, count_by}
use Rattle.std.specs.List.{list_any, range_with_len}
use Rattle.block_list.specs.declared.areas.Count.{Count}
use Rattle.block_list.specs.declared.status.Status.{Status}
use Rattle.block_list.specs.declared.status.Status.TheVariants.{NonTried, NonTrimmed, NonScraped, BadSector, Finished}
use Rattle.block_list.specs.Status.{same}
use Rattle.block_list.specs.Areas.{begins_area, count_below, count_of}
use Rattle.map_counts.specs.declared.summary.Summary.{Summary}
use Rattle.map_counts.specs.At.{status_at}

-- a position is in the domain and has a status
abbrev pub has_status : (domain : ℕ → Bool) → List Status → Status → ℕ → Bool
has_status domain statuses s x = domain x && same (status_at statuses x) s

-- a position is in the domain and has one of some statuses
abbrev pub has_one : (domain : ℕ → Bool) → List Status → (some : List Status) → ℕ → Bool
has_one domain statuses some x = domain x && list_any (λ s. same (status_at statuses x) s) some

-- how many positions of a set lie from one position up to another, and how many of its areas begin there
abbrev pub count_from : (set : ℕ → Bool) → (from to : ℕ) → Count
count_from set from to = record {
  bytes = count_by set (range_with_len from (to - from));
  areas = count_by (begins_area set) (range_with_len from (to - from));
}

-- the statuses, in the order of their lines
abbrev pub all_statuses : List Status
all_statuses = NonTried ∷ NonTrimmed ∷ NonScraped ∷ BadSector ∷ Finished ∷ []

-- how large a domain is, and how much of it has each status
abbrev pub summary_of : (domain : ℕ → Bool) → List Status → Summary
summary_of domain statuses = record {
  domain = count_below domain (length statuses);
  lines = map (λ s. count_of (has_status domain statuses s) (length statuses)) all_statuses;
}
