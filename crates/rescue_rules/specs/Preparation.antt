-- What trying again and trimming again make of a map before a run.
use Rattle.std.specs.Prelude.{◌≡◌, ◌↔◌, ℕ, ◌+◌, Bool, List, [], ◌∷◌, length, if◌then◌else◌}
use Rattle.block_list.specs.declared.status.Status.{Status}
use Rattle.block_list.specs.declared.status.Status.TheVariants.{NonTried, NonTrimmed, NonScraped, BadSector, Finished}
use Rattle.block_list.specs.Map.{Has}

-- what trying again makes of a status: what is left to trim or to scrape is left to copy; a bad sector stays one
abbrev pub tried_again : Status → Status
tried_again NonTrimmed = NonTried
tried_again NonScraped = NonTried
tried_again status = status

-- what trimming again makes of a status: what failed is left to trim
abbrev pub trimmed_again : Status → Status
trimmed_again NonScraped = NonTrimmed
trimmed_again BadSector = NonTrimmed
trimmed_again status = status

-- what is made of a status if that is asked for
abbrev pub if_asked : Bool → (Status → Status) → Status → Status
if_asked asked change status = if asked then change status else status

-- a status is first tried again, then trimmed again, if that is asked for
abbrev pub prepared_status : (try_again retrim : Bool) → Status → Status
prepared_status try_again retrim status = if_asked retrim trimmed_again (if_asked try_again tried_again status)

-- the statuses from a position on, with those in a domain changed
abbrev pub changed_from : (domain : ℕ → Bool) → (change : Status → Status) → ℕ → List Status → List Status
changed_from domain change x [] = []
changed_from domain change x (status ∷ map) = if_asked (domain x) change status ∷ changed_from domain change (x + 1) map

-- the map after preparation of a domain
abbrev pub prepared : (domain : ℕ → Bool) → (try_again retrim : Bool) → List Status → List Status
prepared domain try_again retrim map = changed_from domain (prepared_status try_again retrim) 0 map

-- as many positions, and each of a domain has its status changed; the others have the one that they had
pub record IsChanged (domain : ℕ → Bool) (change : Status → Status) (old new : List Status) : Type 0 where
  pub size : length new ≡ length old
  pub each : (x : ℕ) (status : Status) → Has old status x → Has new (if_asked (domain x) change status) x

-- a position is finished in one map exactly when it is in the other
pub record AreFinishedAlike (a b : List Status) : Type 0 where
  pub each : (x : ℕ) → Has a Finished x ↔ Has b Finished x

-- preparation makes nothing finished, and leaves what is
abbrev pub PreparesNoFinished : Type 0
PreparesNoFinished =
    (domain : ℕ → Bool) (try_again retrim : Bool) (map : List Status)
    → AreFinishedAlike map (prepared domain try_again retrim map)
