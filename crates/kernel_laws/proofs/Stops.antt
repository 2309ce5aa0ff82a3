-- How records of system calls go on, and what holds along them.
use Rattle.std.proofs.Common.{◌≡◌, List, [], ◌∷◌, ◌++◌, refl}
use Rattle.kernel_files.specs.Volume.{Volume, Entry, entered, after}
use Rattle.kernel_files.specs.Stops.{in_part, Along}

pub run_append : (v : Volume) (a b : List Entry) → after v (a ++ b) ≡ after (after v a) b
run_append v [] b = refl
run_append v (e ∷ a) b = run_append (entered v e) a b

pub along_append : (P : Volume → Type 0) (v : Volume) (a b : List Entry) → Along P v a → Along P (after v a) b
    → Along P v (a ++ b)
along_append P v [] b h k = k
along_append P v (e ∷ a) b h k = (h.0, h.1, along_append P (entered v e) a b h.2 k)

pub along_map : (P Q : Volume → Type 0) → ((v : Volume) → P v → Q v) → (v : Volume) (es : List Entry)
    → Along P v es → Along Q v es
along_map P Q f v [] h = f v h
along_map P Q f v (e ∷ es) h = (f v h.0, f (entered v (in_part e)) h.1, along_map P Q f (entered v e) es h.2)

pub along_end : (P : Volume → Type 0) (v : Volume) (es : List Entry) → Along P v es → P (after v es)
along_end P v [] h = h
along_end P v (e ∷ es) h = along_end P (entered v e) es h.2
