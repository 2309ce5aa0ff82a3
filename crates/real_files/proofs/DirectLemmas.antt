-- What a read of whole sectors gives, and how many sectors it asks for.
use Rattle.std.proofs.Common.{◌≡◌, ℕ, ◌+◌, ◌-◌, ◌≤◌, ◌%◌, ◌/◌, ◌*◌, min, List, ◌++◌, length, take, drop, slice_range, Option, sym, ap, ◌∙◌, arith, length-take-le}
use Rattle.std.proofs.Math.Nat.{mul-mod_left, add-mod_right}
use Rattle.std.proofs.lemmas.Nat.{div-add-mod'}
use Rattle.std.proofs.lemmas.List.{take-append-le, take-take}
use Rattle.std.proofs.lemmas.Slice.{between_is}
use Rattle.std.specs.Io.KnownBytes.{Consumes}
use Rattle.real_files.specs.Direct.{GivesPast}

-- A number without its rest is a multiple.
pub multiple_below : (n m : ℕ) → (n - n % m) % m ≡ 0
multiple_below n m =
    let whole : n - n % m ≡ n / m * m = omega (arith, div-add-mod' n m) in
    ap (λ k. k % m) whole ∙ mul-mod_left (n / m) m

-- One multiple more is a multiple.
pub multiple_past : (n m : ℕ) → (n - n % m + m) % m ≡ 0
multiple_past n m = add-mod_right (n - n % m) m ∙ multiple_below n m

-- What was copied from the place past the front is there.
pub gives_past : (skip got n : ℕ) (before after : Option (List ℕ)) (part copied rest : List ℕ) → got ≤ length part
    → Consumes before after (take got part) → n ≡ min (got - skip) (length (copied ++ rest)) → n ≤ got - skip
    → copied ≡ slice_range part skip (skip + n) → n ≤ length copied → GivesPast skip before after n (copied ++ rest)
gives_past skip got n before after part copied rest fits took count few is long =
    let size : skip + n - skip ≡ n = omega arith in
    let front : take n copied ≡ take n (drop skip part) =
    ap (take n) is ∙ take-take n (skip + n - skip) (drop skip part) (omega arith) in
    let came : take n (drop skip (take got part)) ≡ take n (drop skip part) =
    ap (take n) (sym (between_is part skip got)) ∙ take-take n (got - skip) (drop skip part) few in
    record {
      came = take got part;
      consumes = took;
      count = count ∙ ap (λ k. min (k - skip) (length (copied ++ rest))) (sym (length-take-le got part fits));
      bytes = take-append-le n copied rest long ∙ front ∙ sym came;
    }
