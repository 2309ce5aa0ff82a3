-- What the first call of a read and those after it give together.
use Rattle.std.proofs.Common.{◌≡◌, ℕ, Bool, true, false, ◌≤◌, if◌then◌else◌, refl, List, Option, Some, None, Result, Ok, Err, IfSome, take, slice_range, nat_lt, sym, ◌∙◌, subst}
use Rattle.std.specs.Prelude.{⊤}
use Rattle.std.specs.declared.io.Error.{Error}
use Rattle.std.specs.IoError.{raw_os_error}
use Rattle.std.specs.Io.KnownBytes.{Consumes, Keeps, ReadConsumes}
use Rattle.std.proofs.KnownBytes.{Consumes-trans}
use Rattle.real_files.specs.Medium.{is_medium_code}
use Rattle.faulty_source.specs.declared.source.Got.{Got}
use Rattle.faulty_source.specs.declared.source.Got.TheVariants.{Read, End}
use Rattle.faulty_source.specs.Got.{count_of}
use Rattle.file_source.specs.Filling.{answer_of, first_count}
use Rattle.real_files.proofs.PartLemmas.{take_split}

one_of : (b : Bool) (x y : Got) (P : ℕ → Type 0) (n : ℕ) → count_of x ≡ n → count_of y ≡ n → P n
    → P (count_of (if b then x else y))
one_of true x y P n f g p = subst P (sym f) p
one_of false x y P n f g p = subst P (sym g) p

some_if : (b : Bool) (x : Got) (P : ℕ → Type 0) → P (count_of x)
    → IfSome (if b then Some x else None) (λ got. P (count_of got))
some_if true x P p = p
some_if false x P p = tt

-- what holds of the bytes that came holds of an answer's number
pub answered : (is_direct : Bool) (asked got : ℕ) (outcome : Result ⊤ Error) (P : ℕ → Type 0) → P got
    → IfSome (answer_of is_direct asked got outcome) (λ answer. P (count_of answer))
answered d asked got (Ok done) P p = one_of (nat_lt got asked) (End got) (Read got) P got refl refl p
answered d asked got (Err error) P p = some_if (is_medium_code d (raw_os_error error)) (Read got) P p

kept_then : (old mid new : Option (List ℕ)) (bytes : List ℕ) → Keeps old mid → Consumes mid new bytes → Consumes old new bytes
kept_then None mid new bytes p q = tt
kept_then (Some x) None new bytes p q = absurd p
kept_then (Some x) (Some y) None bytes p q = absurd q
kept_then (Some x) (Some y) (Some z) bytes p q = sym p ∙ q

joined : (first : Result ℕ Error) (old mid new : Option (List ℕ)) (was now : List ℕ) (n : ℕ)
    → ReadConsumes old mid first was → first_count first ≤ n → take (first_count first) now ≡ take (first_count first) was
    → Consumes mid new (slice_range now (first_count first) n) → Consumes old new (take n now)
joined (Ok m) old mid new was now n read more front came =
    subst (Consumes old new) (take_split m n was now more front) (Consumes-trans old mid new _ _ read.0 came)
joined (Err e) old mid new was now n read more front came =
    subst (Consumes old new) (take_split 0 n was now more front) (kept_then old mid new _ read came)

-- a read's first call and those after it consume together what the buffer has
pub rest_joined : (result : Option Got) (first : Result ℕ Error) (old mid new : Option (List ℕ)) (was now : List ℕ)
    → ReadConsumes old mid first was → IfSome result (λ got. first_count first ≤ count_of got)
    → take (first_count first) now ≡ take (first_count first) was
    → IfSome result (λ got. Consumes mid new (slice_range now (first_count first) (count_of got)))
    → IfSome result (λ got. Consumes old new (take (count_of got) now))
rest_joined None first old mid new was now read more front came = tt
rest_joined (Some got) first old mid new was now read more front came =
    joined first old mid new was now (count_of got) read more front came
