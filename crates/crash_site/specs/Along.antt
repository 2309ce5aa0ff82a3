-- What holds of a disk at every stop along the calls of a record. For contracts and proofs: no promise uses it.
use Rattle.std.specs.Prelude.{◌≡◌, ⊤, ℕ, List, [], ◌∷◌}
use Rattle.crash_site.specs.Calls.{Call, Entry, Done, Failed}
use Rattle.crash_site.specs.Disk.{Disk, entered}
use Rattle.crash_site.specs.Left.{in_part}

-- a property holds at every stop within these entries of a record, and after them
abbrev pub Along : (Disk → Type 0) → Disk → List Entry → Type 0
Along P d [] = P d
Along P d (e ∷ es) = P (entered d (in_part e)) × Along P (entered d e) es

-- a property holds at every stop as these calls are made, each of which may fail and end them
abbrev pub AlongCalls : (Disk → Type 0) → Disk → List Call → Type 0
AlongCalls P d [] = P d
AlongCalls P d (call ∷ calls) =
    P d × ((steps : ℕ) → P (entered d (Failed call steps))) × AlongCalls P (entered d (Done call)) calls

-- these entries are those of the calls in order: all of them done, or the first ones and then one that failed
abbrev pub GoesAlong : List Call → List Entry → Type 0
GoesAlong calls [] = ⊤
GoesAlong [] (e ∷ es) = ⊥
GoesAlong (call ∷ calls) (Done c ∷ es) = (c ≡ call) × GoesAlong calls es
GoesAlong (call ∷ calls) (Failed c steps ∷ es) = (c ≡ call) × (es ≡ [])
