-- What a text asks for, by the parts round its commas.
use Rattle.std.proofs.Common.{◌≡◌, ◌≢◌, ℕ, suc, ◌<◌, Bool, true, false, ◌&&◌, not, nat_eq, List, [], ◌∷◌, ◌++◌, length, get_or, Some, None, ap, sym, ◌∙◌, refl, arith, subst}
use Rattle.std.specs.Option.{is_some}
use Rattle.std.specs.List.{list_all, slice_split, onto_first, join_with_byte}
use Rattle.std.proofs.lemmas.Bool.{and_parts, eqb-true, cond-true, cond-false, false_from_ne_true}
use Rattle.std.proofs.lemmas.List.Splits.{join_with_byte-slice_split, slice_split-cons_yes, slice_split-cons_no}
use Rattle.block_list.specs.Status.{status_of_symbol}
use Rattle.block_list.specs.Types.{is_types}
use Rattle.map_algebra.specs.Change.{change_by, change_in, change_of}

abbrev is_comma : ℕ → Bool
is_comma c = nat_eq c 44

-- a text has no comma
abbrev pub HasNoComma : List ℕ → Type 0
HasNoComma text = (i : ℕ) → i < length text → get_or text i 0 ≢ 44

other : (c : ℕ) → c ≢ 44 → is_comma c ≡ false
other c ne = false_from_ne_true (is_comma c) (λ t. ne (eqb-true c 44 t))

later : (x : ℕ) (xs : List ℕ) → HasNoComma (x ∷ xs) → HasNoComma xs
later x xs h i l = h (suc i) (omega (arith, l))

split_none : (text : List ℕ) → HasNoComma text → slice_split is_comma text ≡ text ∷ []
split_none [] h = refl
split_none (x ∷ xs) h =
    slice_split-cons_no is_comma x xs (other x (h 0 (omega arith)))
    ∙ ap (onto_first x) (split_none xs (later x xs h))

split_first : (front rest : List ℕ) → HasNoComma front
    → slice_split is_comma (front ++ 44 ∷ rest) ≡ front ∷ slice_split is_comma rest
split_first [] rest h = slice_split-cons_yes is_comma 44 rest refl
split_first (x ∷ xs) rest h =
    slice_split-cons_no is_comma x (xs ++ 44 ∷ rest) (other x (h 0 (omega arith)))
    ∙ ap (onto_first x) (split_first xs rest (later x xs h))

-- types have no comma
type_is_no_comma : (c : ℕ) → is_some (status_of_symbol c) ≡ true → c ≢ 44
type_is_no_comma c h e =
    let k : is_some (status_of_symbol 44) ≡ true = subst (λ y. is_some (status_of_symbol y) ≡ true) e h in cc k

split_types : (text : List ℕ) → list_all (λ c. is_some (status_of_symbol c)) text ≡ true
    → slice_split is_comma text ≡ text ∷ []
split_types [] h = refl
split_types (x ∷ xs) h =
    let p = and_parts (is_some (status_of_symbol x)) (list_all (λ c. is_some (status_of_symbol c)) xs) h in
    slice_split-cons_no is_comma x xs (other x (type_is_no_comma x p.0)) ∙ ap (onto_first x) (split_types xs p.1)

-- a text with no comma is no change
pub no_change : (text : List ℕ) → HasNoComma text → change_of text ≡ None
no_change text h = ap change_in (split_none text h)

-- one with types on both sides of its first comma is theirs
pub change_there : (old new text : List ℕ) → text ≡ old ++ 44 ∷ new → HasNoComma old → is_types old ≡ true
    → is_types new ≡ true → change_of text ≡ Some (change_by old new)
change_there old new text e h a b =
    let p = and_parts (not (nat_eq (length new) 0)) (list_all (λ c. is_some (status_of_symbol c)) new) b in
    ap change_of e ∙ ap change_in (split_first old new h ∙ ap (λ l. old ∷ l) (split_types new p.1))
    ∙ cond-true (is_types old && is_types new) (Some (change_by old new)) None (ap (λ v. v && is_types new) a ∙ b)

alone : (text part : List ℕ) → slice_split is_comma text ≡ part ∷ [] → part ≡ text
alone text part e = sym (ap (join_with_byte 44) e) ∙ join_with_byte-slice_split 44 text

none_in : (old new : List ℕ) (parts : List (List ℕ)) → slice_split is_comma new ≡ parts
    → (is_types old && is_types new) ≡ false → change_in (old ∷ parts) ≡ None
none_in old new [] e h = refl
none_in old new (part ∷ []) e h =
    cond-false (is_types old && is_types part) (Some (change_by old part)) None
    (ap (λ t. is_types old && is_types t) (alone new part e) ∙ h)
none_in old new (part ∷ second ∷ more) e h = refl

-- and any other one is none
pub none_there : (old new text : List ℕ) → text ≡ old ++ 44 ∷ new → HasNoComma old
    → (is_types old && is_types new) ≡ false → change_of text ≡ None
none_there old new text e h f =
    ap change_of e ∙ ap change_in (split_first old new h) ∙ none_in old new (slice_split is_comma new) refl f
