-- Changes of types: `-a ot,nt`, and `-n`.
use Rattle.std.specs.Prelude.{ℕ, ◌-◌, min, Bool, ◌&&◌, List, [], ◌∷◌, length, position, slice_index_or, nat_eq, Option, Some, None, option_and_then, unwrap_or, codes, if◌then◌else◌}
use Rattle.std.specs.List.{slice_split}
use Rattle.block_list.specs.declared.status.Status.{Status}
use Rattle.block_list.specs.declared.status.Status.TheVariants.{NonTried, NonTrimmed, NonScraped, BadSector, Finished}
use Rattle.block_list.specs.Status.{symbol, status_of_symbol}
use Rattle.block_list.specs.Types.{is_types}
use Rattle.map_algebra.specs.declared.change.TypeChange.{TypeChange}
use Rattle.map_counts.specs.At.{status_at, map_by}

-- what becomes of a status
abbrev pub changed_by : TypeChange → Status → Status
changed_by c NonTried = c.non_tried
changed_by c NonTrimmed = c.non_trimmed
changed_by c NonScraped = c.non_scraped
changed_by c BadSector = c.bad_sector
changed_by c Finished = c.finished

-- the new type at a place, or the last one if there are fewer
abbrev pub new_type : (new : List ℕ) → ℕ → Option Status
new_type new i = status_of_symbol (slice_index_or new (min i (length new - 1)) 0)

-- a status becomes the new type at its first place among the old ones; one that isn't among them stays
abbrev pub becomes : (old new : List ℕ) → Status → Status
becomes old new s = unwrap_or (option_and_then (new_type new) (position (nat_eq (symbol s)) old)) s

-- the change of each old type to the new type at its place, or to the last new type
abbrev pub change_by : (old new : List ℕ) → TypeChange
change_by old new = record {
  non_tried = becomes old new NonTried;
  non_trimmed = becomes old new NonTrimmed;
  non_scraped = becomes old new NonScraped;
  bad_sector = becomes old new BadSector;
  finished = becomes old new Finished;
}

-- the change that the parts of a text between its commas ask for: old types, and new types; nothing else is a change
abbrev pub change_in : (parts : List (List ℕ)) → Option TypeChange
change_in (old ∷ new ∷ []) = if is_types old && is_types new then Some (change_by old new) else None
change_in [] = None
change_in (old ∷ []) = None
change_in (old ∷ new ∷ third ∷ more) = None

-- the change that a text asks for: old types, a comma, new types
abbrev pub change_of : List ℕ → Option TypeChange
change_of text = change_in (slice_split (λ c. nat_eq c 44) text)

-- finished becomes a bad sector, all else finished: `?*/-+,++++-`
abbrev pub inverting : TypeChange
inverting = change_by (codes "?*/-+") (codes "++++-")

-- Each position of the domain has its status changed; the others keep theirs.
abbrev pub changed_map : (domain : ℕ → Bool) → TypeChange → List Status → List Status
changed_map domain change statuses =
    map_by (λ x. if domain x then changed_by change (status_at statuses x) else status_at statuses x)
    (length statuses)
