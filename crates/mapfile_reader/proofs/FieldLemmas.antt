-- The first field of a line, by the places where it begins and ends.
use Rattle.std.proofs.Common.{◌≡◌, ℕ, ◌+◌, ◌-◌, ◌<◌, ◌≤◌, suc, Bool, true, false, cond, not, eqb, List, [], ◌∷◌, length, get_or, take, drop, Option, Some, None, refl, sym, ap, subst, ◌∙◌, arith, ⊎_elim, drop-cons, length-drop, lt-ltb}
use Rattle.std.specs.List.{filter, slice_split, position, position_or_len, All}
use Rattle.std.specs.Option.{unwrap_or}
use Rattle.std.proofs.lemmas.Bool.{cases_Bool, cases_lt, le-ltb}
use Rattle.std.proofs.lemmas.List.{take_all, drop_all}
use Rattle.std.proofs.lemmas.List.Sums.{prefix_len-le-length, fails_before_first, passes_at_first}
use Rattle.std.proofs.lemmas.List.Folds.{length-prefix_len}
use Rattle.std.proofs.lemmas.List.Splits.{slice_split-cons_yes, slice_split_none, slice_split_first}
use Rattle.mapfile_text.specs.Lines.{fields, is_blank}

-- the first place at which p passes, or the length
pub first_place : (p : ℕ → Bool) (xs : List ℕ) (r : Option ℕ) → r ≡ position p xs → unwrap_or r (length xs) ≡ position_or_len p xs
first_place p xs r e =
    let k = position_or_len p xs in
    ⊎_elim
    (λ (l : k < length xs). ap (λ o. unwrap_or o (length xs)) (e ∙ ap (λ b. cond b (Some k) None) (lt-ltb k (length xs) l)))
    (λ (l : length xs ≤ k). ap (λ o. unwrap_or o (length xs)) (e
    ∙ ap (λ b. cond b (Some k) None) (le-ltb k (length xs) l))
    ∙ omega (arith, prefix_len-le-length (λ x. not (p x)) xs))
    (cases_lt k (length xs))

-- the parts that aren't empty
abbrev kept : List (List ℕ) → List (List ℕ)
kept parts = filter (λ f. not (eqb (length f) 0)) parts

-- how many elements at the front pass p
abbrev start_by : (ℕ → Bool) → List ℕ → ℕ
start_by p xs = position_or_len (λ c. not (p c)) xs

start-cons_yes : (p : ℕ → Bool) (c : ℕ) (cs : List ℕ) → p c ≡ true → drop (start_by p (c ∷ cs)) (c ∷ cs) ≡ drop (start_by p cs) cs
start-cons_yes p c cs e =
    let more : 1 + start_by p cs ≡ suc (start_by p cs) = omega arith in
    ap (λ b. drop (cond (not (not b)) (1 + start_by p cs) 0) (c ∷ cs)) e ∙ ap (λ n. drop n (c ∷ cs)) more

start-cons_no : (p : ℕ → Bool) (c : ℕ) (cs : List ℕ) → p c ≡ false → drop (start_by p (c ∷ cs)) (c ∷ cs) ≡ c ∷ cs
start-cons_no p c cs e = ap (λ b. drop (cond (not (not b)) (1 + start_by p cs) 0) (c ∷ cs)) e

kept-past_start : (p : ℕ → Bool) (xs : List ℕ) → kept (slice_split p (drop (start_by p xs) xs)) ≡ kept (slice_split p xs)
kept-past_start p [] = refl
kept-past_start p (c ∷ cs) =
    ⊎_elim
    (λ (yes : p c ≡ true). ap (λ l. kept (slice_split p l)) (start-cons_yes p c cs yes) ∙ kept-past_start p cs
    ∙ sym (ap kept (slice_split-cons_yes p c cs yes)))
    (λ (no : p c ≡ false). ap (λ l. kept (slice_split p l)) (start-cons_no p c cs no))
    (cases_Bool (p c))

pub word-begins : (p : ℕ → Bool) (xs : List ℕ) → 0 < length (drop (start_by p xs) xs) → 0 < position_or_len p (drop (start_by p xs) xs)
word-begins p [] h = absurd (omega arith)
word-begins p (c ∷ cs) h =
    ⊎_elim
    (λ (yes : p c ≡ true). subst (λ (l : List ℕ). 0 < position_or_len p l) (sym (start-cons_yes p c cs yes))
    (word-begins p cs (subst (λ (l : List ℕ). 0 < length l) (start-cons_yes p c cs yes) h)))
    (λ (no : p c ≡ false).
    let e : position_or_len p (c ∷ cs) ≡ 1 + position_or_len p cs = ap (λ b. cond (not b) (1 + position_or_len p cs) 0) no in
    let some : 0 < position_or_len p (c ∷ cs) = omega (arith, e) in
    subst (λ (l : List ℕ). 0 < position_or_len p l) (sym (start-cons_no p c cs no)) some)
    (cases_Bool (p c))

kept-cons : (f : List ℕ) (parts : List (List ℕ)) → 0 < length f → kept (f ∷ parts) ≡ f ∷ kept parts
kept-cons [] parts h = absurd (omega arith)
kept-cons (c ∷ cs) parts h =
    let e : eqb (length (c ∷ cs)) 0 ≡ false = grind arith in
    ap (λ b. cond (not b) ((c ∷ cs) ∷ kept parts) (kept parts)) e

kept-word_within : (p : ℕ → Bool) (xs : List ℕ) (k : ℕ) → k ≡ position_or_len p xs → 0 < k → k < length xs
    → kept (slice_split p xs) ≡ take k xs ∷ kept (slice_split p (drop k xs))
kept-word_within p xs k e some l =
    let within : position_or_len p xs < length xs = omega (arith, e) in
    let long : length (take k xs) ≡ k = ap (λ n. length (take n xs)) e ∙ length-prefix_len (λ x. not (p x)) xs ∙ sym e in
    let parts : slice_split p xs ≡ take k xs ∷ slice_split p (drop (k + 1) xs) =
    slice_split_first p xs 0 within ∙ ap (λ n. take n xs ∷ slice_split p (drop (n + 1) xs)) (sym e) in
    let next : k + 1 ≡ suc k = omega arith in
    let passes = ap (λ n. p (get_or xs n 0)) e ∙ passes_at_first p xs 0 within in
    let rest : slice_split p (drop k xs) ≡ [] ∷ slice_split p (drop (k + 1) xs) =
    ap (slice_split p) (drop-cons xs k 0 l) ∙ slice_split-cons_yes p (get_or xs k 0) (drop (suc k) xs) passes
    ∙ ap (λ n. [] ∷ slice_split p (drop n xs)) (sym next) in
    ap kept parts ∙ kept-cons (take k xs) (slice_split p (drop (k + 1) xs)) (omega arith) ∙ ap (λ ps. take k xs ∷ ps) (sym (ap kept rest))

kept-word_all : (p : ℕ → Bool) (xs : List ℕ) (k : ℕ) → k ≡ position_or_len p xs → 0 < k → length xs ≤ k
    → kept (slice_split p xs) ≡ take k xs ∷ kept (slice_split p (drop k xs))
kept-word_all p xs k e some l =
    let short : position_or_len p xs ≤ length xs = prefix_len-le-length (λ x. not (p x)) xs in
    let fails : All (λ x. p x ≡ false) xs = λ i d m. fails_before_first p xs i d (omega arith) in
    let rest : kept (slice_split p (drop k xs)) ≡ [] = ap (λ ys. kept (slice_split p ys)) (drop_all k xs l) in
    ap kept (slice_split_none p xs fails) ∙ kept-cons xs [] (omega arith) ∙ ap (λ f. f ∷ []) (sym (take_all k xs l)) ∙ ap (λ ps. take k xs ∷ ps) (sym rest)

kept-word : (p : ℕ → Bool) (xs : List ℕ) (k : ℕ) → k ≡ position_or_len p xs → 0 < k → kept (slice_split p xs) ≡ take k xs ∷ kept (slice_split p (drop k xs))
kept-word p xs k e some = ⊎_elim (kept-word_within p xs k e some) (kept-word_all p xs k e some) (cases_lt k (length xs))

-- what is left of a line from a place on
pub rest_from : (line : List ℕ) (start : ℕ) → take (length line - start) (drop start line) ≡ drop start line
rest_from line start = take_all (length line - start) (drop start line) (omega (arith, length-drop start line))

kept-none : (p : ℕ → Bool) (xs : List ℕ) → length xs ≡ 0 → kept (slice_split p xs) ≡ []
kept-none p [] e = refl
kept-none p (x ∷ xs) e = absurd (omega (arith, e))

-- no field comes after the blanks with which a line begins
pub no_field : (line rest : List ℕ) (start : ℕ) → start ≡ position_or_len (λ c. not (is_blank c)) line
    → rest ≡ drop start line → length rest ≡ 0 → fields line ≡ []
no_field line rest start e r none =
    let past : kept (slice_split is_blank rest) ≡ kept (slice_split is_blank line) =
    ap (λ l. kept (slice_split is_blank l)) (r ∙ ap (λ n. drop n line) e) ∙ kept-past_start is_blank line in
    sym past ∙ kept-none is_blank rest none

-- the first field comes after the blanks with which a line begins, up to the next blank
pub first_field_is : (line rest : List ℕ) (start end : ℕ) → start ≡ position_or_len (λ c. not (is_blank c)) line → rest ≡ drop start line → 0 < length rest
    → end ≡ position_or_len is_blank rest → fields line ≡ take end rest ∷ fields (drop end rest)
first_field_is line rest start end e r some f =
    let past : kept (slice_split is_blank rest) ≡ kept (slice_split is_blank line) =
    ap (λ l. kept (slice_split is_blank l)) (r ∙ ap (λ n. drop n line) e) ∙ kept-past_start is_blank line in
    let there : rest ≡ drop (start_by is_blank line) line = r ∙ ap (λ n. drop n line) e in
    let begun : 0 < position_or_len is_blank (drop (start_by is_blank line) line) =
    word-begins is_blank line (subst (λ (l : List ℕ). 0 < length l) there some) in
    let long : 0 < end = subst (λ (n : ℕ). 0 < n) (sym (f ∙ ap (position_or_len is_blank) there)) begun in
    sym past ∙ kept-word is_blank rest end f long
