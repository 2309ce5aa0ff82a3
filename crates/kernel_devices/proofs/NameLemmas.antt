-- How a name is read that the kernel's tables print.
use Rattle.std.proofs.Common.{◌≡◌, ℕ, zero, suc, ◌+◌, ◌<◌, ◌≤◌, Bool, true, false, nat_eq, List, [], ◌∷◌, ◌++◌, length, get_or, drop, Option, Some, None, ◌⊎◌, inl, inr, sym, ap, refl, ◌∙◌, arith, append-nil, append_assoc, drop-cons}
use Rattle.std.proofs.Math.ListN.{drop_of_length-le}
use Rattle.std.proofs.lemmas.Bool.Decides.{nat_tests}
use Rattle.kernel_devices.specs.Names.{byte_of, escape_of, escaped, escaped_byte, octal_byte, taken_with, unescaped, unescaped_after}

-- A byte that was taken with an earlier one gives nothing.
pub passed : (text items : List ℕ) (place skip after : ℕ) → place < length text
    → unescaped text ≡ items ++ unescaped_after skip (drop place text) → skip ≡ suc after
    → unescaped text ≡ items ++ unescaped_after after (drop (place + 1) text)
passed text items place skip after within known is =
    let next : suc place ≡ place + 1 = omega arith in
    known ∙ ap (λ n. items ++ unescaped_after n (drop place text)) is
    ∙ ap (λ rest. items ++ unescaped_after (suc after) rest) (drop-cons text place 0 within)
    ∙ ap (λ n. items ++ unescaped_after after (drop n text)) next

-- Any other byte gives one, by what the text from there on begins with.
pub given : (text items new part : List ℕ) (place skip after byte : ℕ) (option : Option ℕ) → place < length text
    → unescaped text ≡ items ++ unescaped_after skip (drop place text) → skip ≡ 0 → part ≡ drop place text
    → option ≡ escaped_byte part → byte ≡ byte_of option (get_or text place 0) → new ≡ items ++ byte ∷ []
    → after ≡ taken_with option → unescaped text ≡ new ++ unescaped_after after (drop (place + 1) text)
given text items new part place skip after byte option within known none front is gives pushed takes =
    let own : ℕ = get_or text place 0 in
    let next : suc place ≡ place + 1 = omega arith in
    let cons : drop place text ≡ own ∷ drop (suc place) text = drop-cons text place 0 within in
    let found : escaped_byte (own ∷ drop (suc place) text) ≡ option = sym (is ∙ ap escaped_byte (front ∙ cons)) in
    known ∙ ap (λ n. items ++ unescaped_after n (drop place text)) none
    ∙ ap (λ rest. items ++ unescaped_after 0 rest) cons
    ∙ ap (λ o. items ++ (byte_of o own ∷ unescaped_after (taken_with o) (drop (suc place) text))) found
    ∙ ap (λ n. items ++ (byte_of option own ∷ unescaped_after (taken_with option) (drop n text))) next
    ∙ ap (λ b. items ++ (b ∷ unescaped_after (taken_with option) (drop (place + 1) text))) (sym gives)
    ∙ ap (λ n. items ++ (byte ∷ unescaped_after n (drop (place + 1) text))) (sym takes)
    ∙ sym (append_assoc items (byte ∷ []) (unescaped_after after (drop (place + 1) text)))
    ∙ ap (λ xs. xs ++ unescaped_after after (drop (place + 1) text)) (sym pushed)

-- At the text's end all that it gives came.
pub whole : (text items : List ℕ) (place skip : ℕ) → length text ≤ place
    → unescaped text ≡ items ++ unescaped_after skip (drop place text) → items ≡ unescaped text
whole text items place skip past known =
    sym (known ∙ ap (λ rest. items ++ unescaped_after skip rest) (drop_of_length-le text {i = place} past)
    ∙ append-nil items)

decided : (a b : ℕ) (same : Bool) → nat_eq a b ≡ same → (a ≡ b) ⊎ (nat_eq a b ≡ false)
decided a b true is = inl (grind (arith, nat_tests, is))
decided a b false is = inr is

-- What isn't a backslash stands for itself.
no_mark : (byte : ℕ) (rest : List ℕ) → nat_eq byte 92 ≡ false → escaped_byte (byte ∷ rest) ≡ None
no_mark byte (b ∷ c ∷ d ∷ rest) isnt = rw isnt refl
no_mark byte _ isnt = refl

stays : (byte : ℕ) (rest name : List ℕ) → nat_eq byte 92 ≡ false → unescaped rest ≡ name
    → unescaped (byte ∷ rest) ≡ byte ∷ name
stays byte rest name isnt known =
    ap (λ o. byte_of o byte ∷ unescaped_after (taken_with o) rest) (no_mark byte rest isnt)
    ∙ ap (λ xs. byte ∷ xs) known

plain : (byte : ℕ) → nat_eq byte 32 ≡ false → nat_eq byte 9 ≡ false → nat_eq byte 10 ≡ false → nat_eq byte 92 ≡ false
    → nat_eq byte 35 ≡ false → escape_of byte ≡ byte ∷ []
plain byte a b c d e = rw (a, b, c, d, e) refl

-- A byte is read back if one that is equal to it is.
along : (byte same : ℕ) (rest name : List ℕ) → byte ≡ same → unescaped (escape_of same ++ rest) ≡ same ∷ name
    → unescaped (escape_of byte ++ rest) ≡ byte ∷ name
along byte same rest name is known =
    ap (λ b. unescaped (escape_of b ++ rest)) is ∙ known ∙ ap (λ b. b ∷ name) (sym is)

-- What the kernel prints of a byte is read as that byte.
back : (byte : ℕ) (rest name : List ℕ) → unescaped rest ≡ name → unescaped (escape_of byte ++ rest) ≡ byte ∷ name
back byte rest name known =
    elim (decided byte 32 (nat_eq byte 32) refl) [
      | inl is ↦ along byte 32 rest name is (ap (λ xs. 32 ∷ xs) known)
      | inr a ↦ elim (decided byte 9 (nat_eq byte 9) refl) [
        | inl is ↦ along byte 9 rest name is (ap (λ xs. 9 ∷ xs) known)
        | inr b ↦ elim (decided byte 10 (nat_eq byte 10) refl) [
          | inl is ↦ along byte 10 rest name is (ap (λ xs. 10 ∷ xs) known)
          | inr c ↦ elim (decided byte 92 (nat_eq byte 92) refl) [
            | inl is ↦ along byte 92 rest name is (ap (λ xs. 92 ∷ xs) known)
            | inr d ↦ elim (decided byte 35 (nat_eq byte 35) refl) [
              | inl is ↦ along byte 35 rest name is (ap (λ xs. 35 ∷ xs) known)
              | inr e ↦
                  ap (λ xs. unescaped (xs ++ rest)) (plain byte a b c d e) ∙ stays byte rest name d known
            ]
          ]
        ]
      ]
    ]

-- What the kernel prints of a name is read as that name.
pub unescaped-escaped : (name : List ℕ) → unescaped (escaped name) ≡ name
unescaped-escaped [] = refl
unescaped-escaped (byte ∷ rest) = back byte (escaped rest) rest (unescaped-escaped rest)
