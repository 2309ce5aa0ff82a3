-- A kernel that tells nothing.
use Rattle.std.proofs.Common.{◌≡◌, ℕ, ◌≤◌, false, List, length, Result, Ok, Err, IfOk, refl, sym, ◌∙◌, arith}
use Rattle.std.specs.Io.{WritesAtMost}
use Rattle.std.proofs.lemmas.Bool.{false≢true}
use Rattle.kernel_files.specs.Volume.{Call}
use Rattle.kernel_files.specs.Answers.{Told, Made}

pub silent : {T E : Type 0} (call : Call) (r : Result T E) (t : Told) → t.tells ≡ false → Made call r t t
silent call (Ok x) t quiet =
    record { tells = refl; start = λ _. refl; done = λ h. absurd (false≢true (sym quiet ∙ h)); failed = tt }
silent call (Err e) t quiet =
    record { tells = refl; start = λ _. refl; done = tt; failed = λ h. absurd (false≢true (sym quiet ∙ h)) }

-- a write of some front of a piece
pub silent_write : {E : Type 0} (call : ℕ → Call) (r : Result ℕ E) (piece : List ℕ) (t : Told) → t.tells ≡ false
    → WritesAtMost r piece → (n : ℕ) × (n ≤ length piece) × IfOk r (λ m. m ≡ n) × Made (call n) r t t
silent_write call (Ok m) piece t quiet most = (m, most, refl, silent (call m) (Ok m) t quiet)
silent_write call (Err e) piece t quiet most = (0, omega arith, tt, silent (call 0) (Err e) t quiet)
