-- What is kept of a draft that is left. For contracts and proofs: no promise uses it.
use Rattle.std.specs.Prelude.{◌≡◌, ◌⊎◌, Bool, true, false, List, ℕ, Option, Some, None}

-- Nothing is kept of no draft, or of one that is synced. The name of another is kept, if none was, or the same.
abbrev pub Leaves : (draft : Option (List ℕ)) → (is_firm : Option Bool) → (old new : Option (List ℕ)) → Type 0
Leaves None is_firm old new = new ≡ old
Leaves (Some name) None old new = ⊥
Leaves (Some name) (Some true) old new = new ≡ old
Leaves (Some name) (Some false) old new = (new ≡ Some name) × ((old ≡ None) ⊎ (old ≡ Some name))
