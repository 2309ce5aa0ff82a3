-- The first line of a text before the lines after it.
use Rattle.std.proofs.Common.{◌≡◌, ℕ, suc, ◌+◌, ◌<◌, ◌≤◌, Bool, true, false, cond, not, eqb, List, [], ◌∷◌, length, filter, Some, None, refl, sym, ap, ◌∙◌, inl, inr, arith, ⊎_elim, lt-ltb}
use Rattle.std.specs.List.{position, position_or_len, All}
use Rattle.std.proofs.lemmas.Bool.{cases_lt, le-ltb, ne_eqb}
use Rattle.std.proofs.lemmas.List.{take_all, drop_all}
use Rattle.std.proofs.lemmas.List.Sums.{fails_before_first, length-filter, count_by-le-length}
use Rattle.std.proofs.lemmas.List.Splits.{slice_split_none, slice_split_first, length-slice_split}
use Rattle.mapfile_text.specs.Lines.{Line, lines, fields, is_newline, numbered_lines, is_comment, filled_lines, said_lines}
use Rattle.mapfile_reader.specs.Cursor.{first_line, after_line, filled_from, no_comments}

-- a place that passes, or none
pub position-some : (p : ℕ → Bool) (xs : List ℕ) (k : ℕ) → position p xs ≡ Some k → (position_or_len p xs < length xs) × (position_or_len p xs ≡ k)
position-some p xs k e =
    let n = position_or_len p xs in
    ⊎_elim
    (λ (l : n < length xs). let same : Some n ≡ Some k = sym (ap (λ b. cond b (Some n) None) (lt-ltb n (length xs) l)) ∙ e in (l, (cc)))
    (λ (l : length xs ≤ n). let none : None ≡ Some k = sym (ap (λ b. cond b (Some n) None) (le-ltb n (length xs) l)) ∙ e in absurd (cc))
    (cases_lt n (length xs))

pub position-none : (p : ℕ → Bool) (xs : List ℕ) → position p xs ≡ None → length xs ≤ position_or_len p xs
position-none p xs e =
    let n = position_or_len p xs in
    ⊎_elim
    (λ (l : n < length xs). let some : Some n ≡ None = sym (ap (λ b. cond b (Some n) None) (lt-ltb n (length xs) l)) ∙ e in absurd (cc))
    (λ (l : length xs ≤ n). l)
    (cases_lt n (length xs))

-- a line in front of others, if it isn't blank
abbrev in_front : ℕ → List (List ℕ) → List Line → List Line
in_front n fs ls = cond (not (eqb (length fs) 0)) (record { number = n; fields = fs } ∷ ls) ls

-- the first line of a text comes before the lines after it
filled-first : (text : List ℕ) (n : ℕ) → filled_from n text ≡ in_front n (fields (first_line text)) (filled_from (n + 1) (after_line text))
filled-first text n =
    let end = position_or_len is_newline text in
    elim (cases_lt end (length text)) [
      | inl there ↦ ap (λ ls. filter (λ l. not (eqb (length l.fields) 0)) (numbered_lines n ls)) (slice_split_first is_newline text 0 there)
      | inr none ↦
          let fails : All (λ b. is_newline b ≡ false) text = λ i d m. fails_before_first is_newline text i d (omega arith) in
          let nothing : [] ≡ after_line text = sym (drop_all (end + 1) text (omega arith)) in
          ap (λ ls. filter (λ l. not (eqb (length l.fields) 0)) (numbered_lines n ls)) (slice_split_none is_newline text fails)
          ∙ ap (λ l. in_front n (fields l) []) (sym (take_all end text none))
          ∙ ap (λ ys. in_front n (fields (first_line text)) (filled_from (n + 1) ys)) nothing
    ]

-- where the first line has a field, it is the first of the filled ones
pub filled-some : (text : List ℕ) (n : ℕ) (f : List ℕ) (fs : List (List ℕ)) → fields (first_line text) ≡ f ∷ fs
    → filled_from n text ≡ record { number = n; fields = f ∷ fs } ∷ filled_from (n + 1) (after_line text)
filled-some text n f fs e =
    let rest : List Line = filled_from (n + 1) (after_line text) in
    let some : eqb (length (f ∷ fs)) 0 ≡ false = ne_eqb (length (f ∷ fs)) 0 (λ z. omega arith) in
    filled-first text n ∙ ap (λ gs. in_front n gs rest) e ∙ ap (λ b. cond (not b) (record { number = n; fields = f ∷ fs } ∷ rest) rest) some

-- where it has none, it is passed over
pub filled-none : (text : List ℕ) (n : ℕ) → fields (first_line text) ≡ [] → filled_from n text ≡ filled_from (n + 1) (after_line text)
filled-none text n e = filled-first text n ∙ ap (λ gs. in_front n gs (filled_from (n + 1) (after_line text))) e

-- a line that is no comment says something, and a comment nothing
pub says-some : (n : ℕ) (fs : List (List ℕ)) (ls : List Line) → is_comment fs ≡ false
    → no_comments (record { number = n; fields = fs } ∷ ls) ≡ record { number = n; fields = fs } ∷ no_comments ls
says-some n fs ls e = ap (λ b. cond (not b) (record { number = n; fields = fs } ∷ no_comments ls) (no_comments ls)) e

pub says-none : (n : ℕ) (fs : List (List ℕ)) (ls : List Line) → is_comment fs ≡ true
    → no_comments (record { number = n; fields = fs } ∷ ls) ≡ no_comments ls
says-none n fs ls e = ap (λ b. cond (not b) (record { number = n; fields = fs } ∷ no_comments ls) (no_comments ls)) e

pub length-numbered : (n : ℕ) (ls : List (List ℕ)) → length (numbered_lines n ls) ≡ length ls
length-numbered n [] = refl
length-numbered n (l ∷ ls) = ap suc (length-numbered (n + 1) ls)

-- a text has at most as many lines that say something as newlines, and one
pub few_said : (text : List ℕ) → length (said_lines text) ≤ length text + 1
few_said text =
    let newline : ℕ → Bool = λ b. eqb b 10 in
    omega (
      arith,
      length-filter (λ (l : Line). not (is_comment l.fields)) (filled_lines text),
      count_by-le-length (λ (l : Line). not (is_comment l.fields)) (filled_lines text),
      length-filter (λ (l : Line). not (eqb (length l.fields) 0)) (numbered_lines 1 (lines text)),
      count_by-le-length (λ (l : Line). not (eqb (length l.fields) 0)) (numbered_lines 1 (lines text)),
      length-numbered 1 (lines text),
      length-slice_split newline text,
      count_by-le-length newline text,
    )
