-- When files in memory follow what was told of them. For contracts and proofs: no promise uses it.
use Rattle.std.specs.Prelude.{◌≡◌, ℕ, List, Some}
use Rattle.std.proofs.Props.{props}
use Rattle.crash_site.specs.Folder.{Folder}

-- Files read as they were told. An image that is open was told to be, and so was a draft that is begun; either may
-- have been closed since for lack of memory.
pub record Follows (current told : Folder) : Type 0 where
  pub files : current.files ≡ told.files
  pub image : (n : List ℕ) → current.image ≡ Some n → told.image ≡ Some n
  pub draft : (n : List ℕ) → current.draft ≡ Some n → told.draft ≡ Some n

-- any two proofs that files follow are equal
pub Follows-prop : (a b : Folder) → IsProp (Follows a b)
Follows-prop a b = hlevel props
