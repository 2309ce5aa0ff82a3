-- What a push answers, by whether a fault was found.
use Rattle.std.proofs.Common.{◌≡◌, ℕ, Option, Some, None, Result, Ok, Err, IsOk, OnOk, MatchOption}
use Rattle.plain_blocks.specs.declared.plain_tiles.PushError.{PushError}

-- a fault that was found is the answer
pub fault_passed : (o : Option PushError) (r : Result ℕ PushError) (q : Result (Unit {0}) PushError) (e : PushError)
    (A : Type 0) → MatchOption o (IsOk r) (λ f. r ≡ Err f) → r ≡ Err e → q ≡ Err e → MatchOption o A (λ f. q ≡ Err f)
fault_passed None (Ok n) q e A h k l = cc
fault_passed None (Err f) q e A h k l = cc
fault_passed (Some f) r q e A h k l = cc

-- a fault was found only where there is one
pub fault_was_there : (o : Option PushError) (r : Result ℕ PushError) (e : PushError) (A : Type 0)
    → MatchOption o (IsOk r) (λ f. r ≡ Err f) → r ≡ Err e → o ≡ None → A
fault_was_there None (Ok n) e A h k n' = cc
fault_was_there None (Err f) e A h k n' = cc
fault_was_there (Some f) r e A h k n' = cc

-- without a fault the answer is open
pub no_fault : (o : Option PushError) (r : Result ℕ PushError) (n : ℕ) (q : Result (Unit {0}) PushError) (A : Type 0)
    → MatchOption o (IsOk r) (λ f. r ≡ Err f) → r ≡ Ok n → A → MatchOption o A (λ f. q ≡ Err f)
no_fault None r n q A h k a = a
no_fault (Some f) r n q A h k a = cc

-- what holds on success, after a success
pub on_success : {T E : Type 0} (r : Result T E) (A : Type 0) → IsOk r → OnOk r A → A
on_success (Ok t) A h a = a
on_success (Err e) A h a = cc
