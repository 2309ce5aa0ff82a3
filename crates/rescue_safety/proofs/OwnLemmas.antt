-- The bytes that reads gave are the input's own.
use Rattle.std.proofs.Common.{◌≡◌, ℕ, zero, suc, ◌+◌, ◌-◌, ◌≤◌, true, false, List, [], ◌∷◌, length, All, Option, Some, None, nat_eq, refl, sym, ◌∙◌, arith, subst, ⊎_elim, if◌then◌else◌}
use Rattle.std.specs.List.{slice_get}
use Rattle.std.proofs.lemmas.Bool.{cases_Bool}
use Rattle.std.proofs.lemmas.List.Elements.{All-nil, All-cons, All-head, All-tail}
use Rattle.faulty_source.specs.Journal.{Reading, kept, covers, IsFrom}
use Rattle.rescue_rules.specs.Given.{given}
use Rattle.rescue_rules.proofs.GivenLemmas.{Covered, covered_here, given_covered, given_uncovered}
use Rattle.rescue_safety.specs.Safe.{IsOwn, reads_until}
use Rattle.ddrescue_laws.proofs.GivenLemmas.{of_range, later_given}

from_is_own : (input : List ℕ) (r : Reading) → IsFrom input r → IsOwn input r
from_is_own input r from i v is =
    of_range input r.pos (r.pos + length r.given) i v (subst (λ (l : List ℕ). slice_get l i ≡ Some v) from is)

pub all_own : (input : List ℕ) (rs : List Reading) → All (IsFrom input) rs → All (IsOwn input) rs
all_own input [] from = All-nil (IsOwn input)
all_own input (r ∷ rs) from =
    All-cons (IsOwn input) r rs (from_is_own input r (All-head (IsFrom input) r rs from))
    (all_own input rs (All-tail (IsFrom input) r rs from))

-- the first of such reads are
pub until_own : (input : List ℕ) (sector n : ℕ) (rs : List Reading) → All (IsOwn input) rs
    → All (IsOwn input) (reads_until sector n rs)
until_own input sector n [] own = All-nil (IsOwn input)
until_own input sector zero (r ∷ rs) own = All-nil (IsOwn input)
until_own input sector (suc n) (r ∷ rs) own =
    All-cons (IsOwn input) r (reads_until sector (if nat_eq (kept sector r) 0 then suc n else n) rs)
    (All-head (IsOwn input) r rs own)
    (until_own input sector (if nat_eq (kept sector r) 0 then suc n else n) rs (All-tail (IsOwn input) r rs own))

-- ---- what such reads give

own_byte : (input : List ℕ) (r : Reading) (x v : ℕ) → IsOwn input r → r.pos ≤ x → slice_get r.given (x - r.pos) ≡ Some v
    → slice_get input x ≡ Some v
own_byte input r x v own from is =
    subst (λ (n : ℕ). slice_get input n ≡ Some v) (omega (arith, from)) (own (x - r.pos) v is)

first_own : (input : List ℕ) (sector : ℕ) (r : Reading) (rs : List Reading) (x v : ℕ) (later : Option ℕ) → IsOwn input r
    → (given sector rs x ≡ Some v → slice_get input x ≡ Some v) → given sector (r ∷ rs) x ≡ Some v
    → given sector rs x ≡ later → slice_get input x ≡ Some v
first_own input sector r rs x v (Some w) own rest is later = rest (later_given sector r rs x v w later is)
first_own input sector r rs x v None own rest is later =
    ⊎_elim
    (λ (on : covers sector r x ≡ true).
    let c : Covered sector r x = covered_here sector r x on in
    own_byte input r x v own c.from (sym (given_covered sector r rs x on later) ∙ is))
    (λ (off : covers sector r x ≡ false).
    let none : None ≡ Some v = sym later ∙ sym (given_uncovered sector r rs x off) ∙ is in absurd (cc))
    (cases_Bool (covers sector r x))

pub own_given : (input : List ℕ) (sector : ℕ) (rs : List Reading) (x v : ℕ) → All (IsOwn input) rs
    → given sector rs x ≡ Some v → slice_get input x ≡ Some v
own_given input sector [] x v own is = absurd (cc)
own_given input sector (r ∷ rs) x v own is =
    first_own input sector r rs x v (given sector rs x) (All-head (IsOwn input) r rs own)
    (own_given input sector rs x v (All-tail (IsOwn input) r rs own)) is refl
