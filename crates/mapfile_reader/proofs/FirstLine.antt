-- The first line of a text, by places in the text.
use Rattle.std.proofs.Common.{◌≡◌, ℕ, zero, suc, ◌+◌, ◌<◌, ◌≤◌, Bool, true, false, not, ◌||◌, cond, List, [], ◌∷◌, length, take, drop, refl, sym, ap, subst, ◌∙◌, inl, inr, arith, eqb-true}
use Rattle.std.specs.List.{position_or_len}
use Rattle.std.proofs.lemmas.Bool.{cases_Bool, cases_lt}
use Rattle.std.proofs.lemmas.List.{length-take-le}
use Rattle.std.proofs.lemmas.List.Sums.{prefix_len-le-length}
use Rattle.mapfile_text.specs.Lines.{fields, is_blank, is_newline}
use Rattle.mapfile_reader.specs.Cursor.{first_line, after_line}
use Rattle.mapfile_reader.proofs.FieldLemmas.{first_field_is, no_field, word-begins}

-- where the first line ends
abbrev end_of_line : List ℕ → ℕ
end_of_line xs = position_or_len is_newline xs

end-yes : (c : ℕ) (cs : List ℕ) → is_newline c ≡ true → end_of_line (c ∷ cs) ≡ 0
end-yes c cs e = ap (λ b. cond (not b) (1 + end_of_line cs) 0) e

end-no : (c : ℕ) (cs : List ℕ) → is_newline c ≡ false → end_of_line (c ∷ cs) ≡ suc (end_of_line cs)
end-no c cs e = ap (λ b. cond (not b) (1 + end_of_line cs) 0) e ∙ omega arith

line-yes : (c : ℕ) (cs : List ℕ) → is_newline c ≡ true → first_line (c ∷ cs) ≡ []
line-yes c cs e = ap (λ n. take n (c ∷ cs)) (end-yes c cs e)

line-no : (c : ℕ) (cs : List ℕ) → is_newline c ≡ false → first_line (c ∷ cs) ≡ c ∷ first_line cs
line-no c cs e = ap (λ n. take n (c ∷ cs)) (end-no c cs e)

after-no : (c : ℕ) (cs : List ℕ) → is_newline c ≡ false → after_line (c ∷ cs) ≡ after_line cs
after-no c cs e =
    let more : suc (end_of_line cs) + 1 ≡ suc (end_of_line cs + 1) = omega arith in
    ap (λ n. drop (n + 1) (c ∷ cs)) (end-no c cs e) ∙ ap (λ n. drop n (c ∷ cs)) more

-- what passes at a newline passes first at the same place of a text and of its first line
place_in_line : (p : ℕ → Bool) → ((c : ℕ) → is_newline c ≡ true → p c ≡ true) → (xs : List ℕ) → position_or_len p (first_line xs) ≡ position_or_len p xs
place_in_line p h [] = refl
place_in_line p h (c ∷ cs) =
    elim (cases_Bool (is_newline c)) [
      | inl at ↦
          ap (position_or_len p) (line-yes c cs at) ∙ sym (ap (λ b. cond (not b) (1 + position_or_len p cs) 0) (h c at))
      | inr off ↦
          ap (position_or_len p) (line-no c cs off) ∙ ap (λ n. cond (not (p c)) (1 + n) 0) (place_in_line p h cs)
    ]

-- what passes first in the first line, or the newline after it
place_or_newline : (p : ℕ → Bool) (xs : List ℕ) → position_or_len p (first_line xs) ≡ position_or_len (λ c. p c || is_newline c) xs
place_or_newline p [] = refl
place_or_newline p (c ∷ cs) =
    let q : ℕ → Bool = λ c. p c || is_newline c in
    elim (cases_Bool (is_newline c)) [
      | inl at ↦
          ap (position_or_len p) (line-yes c cs at)
          ∙ sym (ap (λ b. cond (not b) (1 + position_or_len q cs) 0) (or_true (p c) (is_newline c) at))
      | inr off ↦
          ap (position_or_len p) (line-no c cs off) ∙ ap (λ n. cond (not (p c)) (1 + n) 0) (place_or_newline p cs)
          ∙ sym (ap (λ b. cond (not b) (1 + position_or_len q cs) 0) (or_false (p c) (is_newline c) off))
    ]
  where
    or_true : (a b : Bool) → b ≡ true → (a || b) ≡ true
    or_true true b e = refl
    or_true false b e = e

    or_false : (a b : Bool) → b ≡ false → (a || b) ≡ a
    or_false true b e = refl
    or_false false b e = e

-- a place in the first line
line-drop : (k : ℕ) (xs : List ℕ) → k ≤ end_of_line xs → first_line (drop k xs) ≡ drop k (first_line xs)
line-drop zero xs h = refl
line-drop (suc k) [] h = refl
line-drop (suc k) (c ∷ cs) h =
    elim (cases_Bool (is_newline c)) [
      | inl at ↦ absurd (omega (arith, end-yes c cs at))
      | inr off ↦ line-drop k cs (omega (arith, end-no c cs off)) ∙ sym (ap (drop (suc k)) (line-no c cs off))
    ]

line-take : (k : ℕ) (xs : List ℕ) → k ≤ end_of_line xs → take k (first_line xs) ≡ take k xs
line-take zero xs h = refl
line-take (suc k) [] h = refl
line-take (suc k) (c ∷ cs) h =
    elim (cases_Bool (is_newline c)) [
      | inl at ↦ absurd (omega (arith, end-yes c cs at))
      | inr off ↦ ap (take (suc k)) (line-no c cs off) ∙ ap (λ xs. c ∷ xs) (line-take k cs (omega (arith, end-no c cs off)))
    ]

after-drop : (k : ℕ) (xs : List ℕ) → k ≤ end_of_line xs → after_line (drop k xs) ≡ after_line xs
after-drop zero xs h = refl
after-drop (suc k) [] h = refl
after-drop (suc k) (c ∷ cs) h =
    elim (cases_Bool (is_newline c)) [
      | inl at ↦ absurd (omega (arith, end-yes c cs at))
      | inr off ↦ after-drop k cs (omega (arith, end-no c cs off)) ∙ sym (after-no c cs off)
    ]

within_line : (p : ℕ → Bool) (xs : List ℕ) → position_or_len p (first_line xs) ≤ end_of_line xs
within_line p xs =
    let end = prefix_len-le-length (λ c. not (is_newline c)) xs in
    omega (arith, prefix_len-le-length (λ c. not (p c)) (first_line xs), length-take-le (end_of_line xs) xs end)

-- a newline isn't blank
newline_is_no_blank : (c : ℕ) → is_newline c ≡ true → not (is_blank c) ≡ true
newline_is_no_blank c e = let at : c ≡ 10 = eqb-true c 10 e in ap (λ k. not (is_blank k)) at

-- a text, the place of its first byte that isn't blank, what stands from there on, and where the field ends there
pub record Found (text rest : List ℕ) (start end : ℕ) : Type 0 where
  pub begins : start ≡ position_or_len (λ c. not (is_blank c)) text
  pub from : rest ≡ drop start text
  pub ends : end ≡ position_or_len (λ c. is_blank c || is_newline c) rest

start_is : (text rest : List ℕ) (start end : ℕ) → Found text rest start end → start ≡ position_or_len (λ c. not (is_blank c)) (first_line text)
start_is text rest start end f = f.begins ∙ sym (place_in_line (λ c. not (is_blank c)) newline_is_no_blank text)

start_within : (text rest : List ℕ) (start end : ℕ) → Found text rest start end → start ≤ end_of_line text
start_within text rest start end f = omega (arith, start_is text rest start end f, within_line (λ c. not (is_blank c)) text)

rest_is : (text rest : List ℕ) (start end : ℕ) → Found text rest start end → first_line rest ≡ drop start (first_line text)
rest_is text rest start end f = ap first_line f.from ∙ line-drop start text (start_within text rest start end f)

end_is : (text rest : List ℕ) (start end : ℕ) → Found text rest start end → end ≡ position_or_len is_blank (first_line rest)
end_is text rest start end f = f.ends ∙ sym (place_or_newline is_blank rest)

end_within : (text rest : List ℕ) (start end : ℕ) → Found text rest start end → end ≤ end_of_line rest
end_within text rest start end f = omega (arith, end_is text rest start end f, within_line is_blank rest)

-- the first field of the first line, and those after it
pub field_found : (text rest : List ℕ) (start end : ℕ) → Found text rest start end → 0 < end
    → fields (first_line text) ≡ take end rest ∷ fields (first_line (drop end rest))
field_found text rest start end f some =
    let within = end_within text rest start end f in
    let is = end_is text rest start end f in
    let long : 0 < length (first_line rest) = omega (arith, is, prefix_len-le-length (λ c. not (is_blank c)) (first_line rest)) in
    first_field_is (first_line text) (first_line rest) start end (start_is text rest start end f) (rest_is text rest start end f) long is
    ∙ ap (λ x. x ∷ fields (drop end (first_line rest))) (line-take end rest within)
    ∙ ap (λ l. take end rest ∷ fields l) (sym (line-drop end rest within))

-- what comes after the line, wherever in it one begins to look
pub after_found : (text rest : List ℕ) (start end : ℕ) → Found text rest start end → after_line (drop end rest) ≡ after_line text
after_found text rest start end f =
    after-drop end rest (end_within text rest start end f) ∙ ap after_line f.from ∙ after-drop start text (start_within text rest start end f)

-- no field is there where none has a byte
pub none_found : (text rest : List ℕ) (start end : ℕ) → Found text rest start end → end ≡ 0 → fields (first_line text) ≡ []
none_found text rest start end f none =
    let line = first_line text in
    let begins = start_is text rest start end f in
    let from = rest_is text rest start end f in
    let is = end_is text rest start end f in
    elim (cases_lt 0 (length (first_line rest))) [
      | inl some ↦
          let there : first_line rest ≡ drop (position_or_len (λ c. not (is_blank c)) line) line = from ∙ ap (λ n. drop n line) begins in
          let begun = word-begins is_blank line (subst (λ (l : List ℕ). 0 < length l) there some) in
          let word : 0 < position_or_len is_blank (first_line rest) = subst (λ (l : List ℕ). 0 < position_or_len is_blank l) (sym there) begun in
          absurd (omega arith)
      | inr empty ↦ no_field line (first_line rest) start begins from (omega arith)
    ]
