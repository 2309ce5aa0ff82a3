-- Results of which something is known.
use Rattle.std.proofs.Common.{◌≡◌, ℕ, Bool, true, false, cond, Option, Some, None, Result, Ok, Err, IsOkAnd, refl}
use Rattle.option_words.specs.declared.fault.UsageFault.{UsageFault}
use Rattle.option_words.specs.Grammar.{unless_empty}

-- a result with a fact has a value with that fact
pub ok_and_parts : {T E : Type 0} (r : Result T E) (P : T → Type 0) → IsOkAnd r P → (x : T) × (r ≡ Ok x) × P x
ok_and_parts (Ok x) P h = (x, refl, h)
ok_and_parts (Err e) P h = absurd h

-- a result has one value
pub one_ok : {T E : Type 0} (r : Result T E) (x y : T) → r ≡ Ok x → r ≡ Ok y → x ≡ y
one_ok r x y p q = cc

-- a result has one error
pub one_err : {T E : Type 0} (r : Result T E) (x y : E) → r ≡ Err x → r ≡ Err y → x ≡ y
one_err r x y p q = cc

-- a result is a value or an error
pub never_both : {T E : Type 0} (r : Result T E) (x : T) (e : E) → r ≡ Ok x → r ≡ Err e → ⊥
never_both r x e p q = cc

-- what is asked for was asked for before the look for an empty operand
pub unless_part : {C : Type 0} (n : Option ℕ) (r : Result C UsageFault) (c : C) → unless_empty n r ≡ Ok c → r ≡ Ok c
unless_part None (Ok c') c e = e
unless_part (Some n) (Ok c') c e = absurd (cc)
unless_part None (Err f) c e = absurd (cc)
unless_part (Some n) (Err f) c e = absurd (cc)

-- what isn't refused by a test fails it
pub untested_part : {C : Type 0} (b : Bool) (f : UsageFault) (r : Result C UsageFault) (c : C)
    → cond b (Err f) r ≡ Ok c → (b ≡ false) × (r ≡ Ok c)
untested_part true f r c e = absurd (cc)
untested_part false f r c e = (refl, e)
