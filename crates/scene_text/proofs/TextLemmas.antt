-- The first part and the first line of a text, and where two texts differ.
use Rattle.std.proofs.Common.{◌≡◌, ◌+◌, ◌-◌, ◌<◌, ◌≤◌, ◌++◌, ◌⊎◌, ℕ, suc, List, [], ◌∷◌, length, take, drop, true, false, refl, ap, sym, ◌∙◌, inl, inr, arith, rules, subst, Bool, if◌then◌else◌, nat_eq}
use Rattle.std.proofs.lemmas.List.{at_drop_all, take-append-drop, length-drop}
use Rattle.std.proofs.Math.Seq.{take-add}
use Rattle.scene_text.specs.Texts.{is_part_end, part_length, first_line, last_byte, IsLineStart}

-- a text that has a byte has one in its first part
pub part-some : (text : List ℕ) → 0 < length text → 0 < part_length text
part-some [] l = l
part-some (byte ∷ rest) l =
    elim (is_part_end byte rest) as (λ v. 0 < (if v then 1 else 1 + part_length rest))
    [ true ↦ omega arith | false ↦ omega arith ]

-- texts with the same first part and the same rest are the same
pub parts-same : (m n : ℕ) (xs ys : List ℕ) → take m xs ≡ take n ys → drop m xs ≡ drop n ys → xs ≡ ys
parts-same m n xs ys e f =
    sym (take-append-drop m xs) ∙ ap (λ t. t ++ drop m xs) e ∙ ap (λ t. take n ys ++ t) f ∙ take-append-drop n ys

-- a first line is no longer than the text
pub line-fits : (text : List ℕ) → length (first_line text) ≤ length text
line-fits [] = omega arith
line-fits (byte ∷ rest) =
    let h = line-fits rest in
    elim (nat_eq byte 10) as (λ v. length (if v then byte ∷ [] else byte ∷ first_line rest) ≤ suc (length rest))
    [ true ↦ omega arith | false ↦ omega arith ]

-- a text that has a byte has one in its first line
pub line-some : (text : List ℕ) → 0 < length text → 0 < length (first_line text)
line-some [] l = l
line-some (byte ∷ rest) l =
    elim (nat_eq byte 10) as (λ v. 0 < length (if v then byte ∷ [] else byte ∷ first_line rest))
    [ true ↦ omega arith | false ↦ omega arith ]

-- a text begins with its first line
pub line-front : (text : List ℕ) → take (length (first_line text)) text ≡ first_line text
line-front [] = refl
line-front (byte ∷ rest) =
    elim (nat_eq byte 10) as (λ v. take (length (if v then byte ∷ [] else byte ∷ first_line rest)) (byte ∷ rest)
    ≡ (if v then byte ∷ [] else byte ∷ first_line rest))
    [ true ↦ refl | false ↦ ap (λ t. byte ∷ t) (line-front rest) ]

-- texts that are the same up to a place, and in the line there, are the same up to that line's end
pub same-further : (xs ys : List ℕ) (place : ℕ) → take place xs ≡ take place ys
    → first_line (drop place xs) ≡ first_line (drop place ys)
    → take (place + length (first_line (drop place xs))) xs ≡ take (place + length (first_line (drop place xs))) ys
same-further xs ys place e f =
    take-add place (length (first_line (drop place xs))) xs
    ∙ ap (λ t. t ++ take (length (first_line (drop place xs))) (drop place xs)) e
    ∙ ap (λ t. take place ys ++ t)
    (line-front (drop place xs) ∙ f ∙ sym (line-front (drop place ys))
    ∙ ap (λ t. take (length t) (drop place ys)) (sym f))
    ∙ sym (take-add place (length (first_line (drop place xs))) ys)

-- the line that begins at a place ends within the text
pub line-place : (text : List ℕ) (place : ℕ) → place ≤ length text
    → place + length (first_line (drop place text)) ≤ length text
line-place text place l =
    let h = line-fits (drop place text) in
    let e = length-drop place text in
    omega arith

-- at a place within the text it has a byte
pub line-more : (text : List ℕ) (place : ℕ) → place < length text → 0 < length (first_line (drop place text))
line-more text place l =
    line-some (drop place text) (let e = length-drop place text in omega arith)

-- the rests of two texts are shorter than they, if the first one has a byte
pub rests-shorter : (xs ys xs' ys' : List ℕ) → xs' ≡ drop (part_length xs) xs → ys' ≡ drop (part_length ys) ys
    → 0 < length xs → length xs' + length ys' < length xs + length ys
rests-shorter xs ys xs' ys' e f l =
    let a = ap (λ t. length t) e ∙ length-drop (part_length xs) xs in
    let b = ap (λ t. length t) f ∙ length-drop (part_length ys) ys in
    let h = part-some xs l in
    omega arith

-- and if the second one has a byte
pub rests-shorter-other : (xs ys xs' ys' : List ℕ) → xs' ≡ drop (part_length xs) xs
    → ys' ≡ drop (part_length ys) ys → 0 < length ys → length xs' + length ys' < length xs + length ys
rests-shorter-other xs ys xs' ys' e f l =
    let a = ap (λ t. length t) e ∙ length-drop (part_length xs) xs in
    let b = ap (λ t. length t) f ∙ length-drop (part_length ys) ys in
    let h = part-some ys l in
    omega arith

-- a place comes nearer to the end by a line
pub place-nearer : (text line : List ℕ) (place : ℕ) → place < length text → line ≡ first_line (drop place text)
    → length text - (place + length line) < length text - place
place-nearer text line place l e =
    let h = line-more text place l in
    let a = ap (λ t. length t) e in
    omega arith

-- one text ends at a place, and the other one has a line there
pub line-only : (xs ys : List ℕ) (place : ℕ) → length xs ≤ place → place < length ys
    → first_line (drop place xs) ≡ first_line (drop place ys) → ⊥
line-only xs ys place l m e =
    let h = line-more ys place m in
    let a = ap (λ t. length t) (sym e ∙ at_drop_all first_line xs place l) in
    omega arith

-- the last byte of two texts, one after the other
pub last-join : (before : ℕ) (xs ys : List ℕ) → last_byte before (xs ++ ys) ≡ last_byte (last_byte before xs) ys
last-join before [] ys = refl
last-join before (byte ∷ rest) ys = last-join byte rest ys

-- a first line ends with a newline, or with the text
abbrev pub EndsLine : ℕ → List ℕ → List ℕ → Type 0
EndsLine before line text = (last_byte before line ≡ 10) ⊎ (line ≡ text)

line-last-by : (before byte : ℕ) (rest : List ℕ) (v : Bool) → nat_eq byte 10 ≡ v
    → EndsLine byte (first_line rest) rest
    → EndsLine before (if v then byte ∷ [] else byte ∷ first_line rest) (byte ∷ rest)
line-last-by before byte rest true e h = inl (search rules)
line-last-by before byte rest false e h = elim h [ inl e ↦ inl e | inr e ↦ inr (ap (λ t. byte ∷ t) e) ]

pub line-last : (before : ℕ) (text : List ℕ) → EndsLine before (first_line text) text
line-last before [] = inr refl
line-last before (byte ∷ rest) = line-last-by before byte rest (nat_eq byte 10) refl (line-last byte rest)

-- after equal lines at a place another line begins, or both texts end
abbrev pub IsBetween : List ℕ → List ℕ → ℕ → Type 0
IsBetween xs ys place = IsLineStart xs place ⊎ (place ≡ length xs × place ≡ length ys)

last-further : (xs : List ℕ) (place : ℕ)
    → last_byte 10 (take (place + length (first_line (drop place xs))) xs)
    ≡ last_byte (last_byte 10 (take place xs)) (first_line (drop place xs))
last-further xs place =
    ap (λ t. last_byte 10 t)
    (take-add place (length (first_line (drop place xs))) xs
    ∙ ap (λ t. take place xs ++ t) (line-front (drop place xs)))
    ∙ last-join 10 (take place xs) (first_line (drop place xs))

all-further : (xs : List ℕ) (place : ℕ) → place ≤ length xs → first_line (drop place xs) ≡ drop place xs
    → place + length (first_line (drop place xs)) ≡ length xs
all-further xs place l e = let a = ap (λ t. length t) e ∙ length-drop place xs in omega arith

pub between-further : (xs ys : List ℕ) (place : ℕ) → place ≤ length xs → place ≤ length ys
    → first_line (drop place xs) ≡ first_line (drop place ys)
    → IsBetween xs ys (place + length (first_line (drop place xs)))
between-further xs ys place l m e =
    let before = last_byte 10 (take place xs) in
    elim (line-last before (drop place xs)) [
      | inl a ↦ inl (last-further xs place ∙ a)
      | inr a ↦ elim (line-last before (drop place ys)) [
        | inl b ↦ inl (last-further xs place ∙ ap (λ t. last_byte before t) e ∙ b)
        | inr b ↦ inr (all-further xs place l a, ap (λ t. place + length t) e ∙ all-further ys place m b)
      ]
    ]

-- what is known at a place is known after the line there, if the two texts have the same line
pub line-further : (xs ys line : List ℕ) (place : ℕ) → line ≡ first_line (drop place xs)
    → line ≡ first_line (drop place ys) → take place xs ≡ take place ys → place ≤ length xs → place ≤ length ys
    → (take (place + length line) xs ≡ take (place + length line) ys)
    × (place + length line ≤ length xs)
    × (place + length line ≤ length ys)
    × IsBetween xs ys (place + length line)
line-further xs ys line place e f same l m =
    let h = line-place xs place l in
    let k = line-place ys place m in
    let a = ap (λ t. length t) e in
    let b = ap (λ t. length t) f in (
      ap (λ t. take (place + length t) xs) e ∙ same-further xs ys place same (sym e ∙ f)
          ∙ ap (λ t. take (place + length t) ys) (sym e),
      omega arith,
      omega arith,
      subst (λ t. IsBetween xs ys (place + length t)) (sym e) (between-further xs ys place l m (sym e ∙ f)),
    )

-- no text ends at a place that is within one of them
pub between-start : (xs ys : List ℕ) (place : ℕ) → IsBetween xs ys place → place < length xs → IsLineStart xs place
between-start xs ys place h l = elim h [ inl e ↦ e | inr e ↦ absurd (let a = e.0 in omega arith) ]

pub between-start-other : (xs ys : List ℕ) (place : ℕ) → IsBetween xs ys place → place < length ys
    → IsLineStart xs place
between-start-other xs ys place h l = elim h [ inl e ↦ e | inr e ↦ absurd (let a = e.1 in omega arith) ]
