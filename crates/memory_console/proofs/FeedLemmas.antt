-- What a take gives of the bytes that are left.
use Rattle.std.proofs.Common.{◌≡◌, ℕ, ◌+◌, ◌<◌, min, List, [], ◌++◌, length, take, drop, sym, ap, ◌∙◌, arith, take-append-drop}
use Rattle.std.proofs.lemmas.List.{nil_from_length}
use lib.Seq.{drop-drop}

-- the bytes that were given, and then those after them, are those that were left
pub taken-left : (bytes buf : List ℕ) (at n : ℕ) → take n buf ≡ take n (drop at bytes) → drop at bytes ≡ take n buf ++ drop (at + n) bytes
taken-left bytes buf at n front =
    sym (take-append-drop n (drop at bytes)) ∙ ap (λ l. l ++ drop n (drop at bytes)) (sym front)
    ∙ ap (λ l. take n buf ++ l) (drop-drop n at bytes)

-- a take that gives nothing to a buffer with room finds nothing left
pub none-left : (rest : List ℕ) (room n : ℕ) → 0 < room → n ≡ min room (length rest) → n ≡ 0 → rest ≡ []
none-left rest room n roomy count none = nil_from_length rest (omega arith)
