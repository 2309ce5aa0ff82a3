-- Calls that were made one after the other. For contracts and proofs: no promise uses it.
use Rattle.std.specs.Prelude.{◌≡◌, ◌⊎◌, IsTrue, List, [], ◌∷◌, ◌++◌}
use Rattle.kernel_files.specs.Volume.{Call, Entry, Done, Failed}
use Rattle.kernel_files.specs.Answers.{Told}

-- some calls were made, of which this holds
pub record MadeBy (P : List Entry → Type 0) (old new : Told) : Type 0 where
  pub tells : new.tells ≡ old.tells
  pub start : IsTrue old.tells → new.start ≡ old.start
  pub calls : IsTrue old.tells → (es : List Entry) × (new.calls ≡ old.calls ++ es) × P es

-- one call, which returned
abbrev pub IsDone : Call → List Entry → Type 0
IsDone call es = es ≡ Done call ∷ []

-- none, or one that failed
abbrev pub IsBroken : Call → List Entry → Type 0
IsBroken call es = (es ≡ []) ⊎ (es ≡ Failed call ∷ [])
