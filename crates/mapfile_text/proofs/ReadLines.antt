-- How a text of whole lines is read: line by line, and each line field by field.
use Rattle.std.proofs.Common.{◌≡◌, ℕ, ◌+◌, ◌<◌, ◌≤◌, Bool, true, false, not, cond, List, [], ◌∷◌, ◌++◌, length, replicate, codes, nat_eq, refl, ap, ◌∙◌, append_assoc, arith}
use Rattle.std.specs.List.{filter, slice_split}
use Rattle.std.proofs.lemmas.Bool.{ne_eqb}
use Rattle.std.proofs.lemmas.List.Elements.{All-nil, All-cons}
use Rattle.std.proofs.lemmas.List.Splits.{slice_split_at, slice_split_none}
use Rattle.mapfile_text.specs.Lines.{Line, lines, is_blank, fields, is_comment, numbered_lines, said_lines}
use Rattle.mapfile_text.specs.Printed.{with_newline}
use Rattle.mapfile_text.proofs.PrintedBytes.{AllFrom, no_newlines, no_blanks}

-- a line says nothing that has no field, or that is a comment
abbrev pub says_nothing : List (List ℕ) → Bool
says_nothing [] = true
says_nothing (f ∷ fs) = is_comment (f ∷ fs)

-- the lines of a text that say something, where its first line has a number
abbrev pub said_from : ℕ → List ℕ → List Line
said_from n text = filter (λ l. not (says_nothing l.fields)) (numbered_lines n (lines text))

said-cons : (n : ℕ) (fs : List (List ℕ)) (rest all : List Line) → filter (λ l. not (is_comment l.fields)) rest ≡ all
    → filter (λ l. not (is_comment l.fields)) (cond (not (nat_eq (length fs) 0)) (record { number = n; fields = fs } ∷ rest) rest)
    ≡ cond (not (says_nothing fs)) (record { number = n; fields = fs } ∷ all) all
said-cons n [] rest all e = e
said-cons n (f ∷ fs) rest all e =
    let l : Line = record { number = n; fields = f ∷ fs } in
    ap (λ v. filter (λ x. not (is_comment x.fields)) (cond (not v) (l ∷ rest) rest)) (ne_eqb (length (f ∷ fs)) 0 (λ z. omega arith))
    ∙ ap (λ xs. cond (not (is_comment (f ∷ fs))) (l ∷ xs) xs) e

said-filled : (ls : List Line) → filter (λ l. not (is_comment l.fields)) (filter (λ l. not (nat_eq (length l.fields) 0)) ls)
    ≡ filter (λ l. not (says_nothing l.fields)) ls
said-filled [] = refl
said-filled (l ∷ ls) =
    said-cons l.number l.fields (filter (λ x. not (nat_eq (length x.fields) 0)) ls) (filter (λ x. not (says_nothing x.fields)) ls) (said-filled ls)

-- what a text says, by the lines that don't say nothing
pub said_is : (text : List ℕ) → said_lines text ≡ said_from 1 text
said_is text = said-filled (numbered_lines 1 (lines text))

lines_ended : (x rest : List ℕ) → AllFrom 11 x → lines (with_newline x ++ rest) ≡ x ∷ lines rest
lines_ended x rest h = ap lines (append_assoc x (10 ∷ []) rest) ∙ slice_split_at (λ b. nat_eq b 10) x 10 rest (no_newlines x h) refl

-- a line that says nothing is passed over
pub comment_line : (n : ℕ) (x rest : List ℕ) → AllFrom 11 x → says_nothing (fields x) ≡ true → said_from n (with_newline x ++ rest) ≡ said_from (n + 1) rest
comment_line n x rest h e =
    let first : List Line = record { number = n; fields = fields x } ∷ said_from (n + 1) rest in
    ap (λ ls. filter (λ l. not (says_nothing l.fields)) (numbered_lines n ls)) (lines_ended x rest h) ∙ ap (λ v. cond (not v) first (said_from (n + 1) rest)) e

-- a line that says something is the first that does
pub said_line : (n : ℕ) (x rest : List ℕ) (fs : List (List ℕ)) → AllFrom 11 x → fields x ≡ fs → says_nothing fs ≡ false
    → said_from n (with_newline x ++ rest) ≡ record { number = n; fields = fs } ∷ said_from (n + 1) rest
said_line n x rest fs h e f =
    let with : List (List ℕ) → Bool → List Line = λ fs v. cond (not v) (record { number = n; fields = fs } ∷ said_from (n + 1) rest) (said_from (n + 1) rest) in
    ap (λ ls. filter (λ l. not (says_nothing l.fields)) (numbered_lines n ls)) (lines_ended x rest h) ∙ ap (λ fs. with fs (says_nothing fs)) e ∙ ap (with fs) f

-- a text of which no line says anything
pub record IsComment (text : List ℕ) : Type 0 where
  pub passed : (n : ℕ) (rest : List ℕ) → (m : ℕ) × (said_from n (text ++ rest) ≡ said_from m rest)

pub no_comment : IsComment []
no_comment = record { passed = λ n rest. (n, refl) }

pub comment : (x : List ℕ) → AllFrom 11 x → says_nothing (fields x) ≡ true → IsComment (with_newline x)
comment x h e = record { passed = λ n rest. (n + 1, comment_line n x rest h e) }

pub comments_join : (a b : List ℕ) → IsComment a → IsComment b → IsComment (a ++ b)
comments_join a b p q = record {
  passed = λ n rest.
      let first = p.passed n (b ++ rest) in
      let second = q.passed first.0 rest in
      (second.0, ap (said_from n) (append_assoc a b rest) ∙ first.1 ∙ second.1);
}

kept : (x : List ℕ) (parts : List (List ℕ)) → 0 < length x → filter (λ f. not (nat_eq (length f) 0)) (x ∷ parts)
    ≡ x ∷ filter (λ f. not (nat_eq (length f) 0)) parts
kept x parts l =
    let more : List (List ℕ) = filter (λ f. not (nat_eq (length f) 0)) parts in
    ap (λ v. cond (not v) (x ∷ more) more) (ne_eqb (length x) 0 (λ e. omega arith))

-- a word and a blank after it
first_field : (x rest : List ℕ) → AllFrom 33 x → 0 < length x → fields (x ++ 32 ∷ rest) ≡ x ∷ fields rest
first_field x rest h l =
    ap (filter (λ f. not (nat_eq (length f) 0))) (slice_split_at is_blank x 32 rest (no_blanks x h) refl)
    ∙ kept x (slice_split is_blank rest) l

last_field : (x : List ℕ) → AllFrom 33 x → 0 < length x → fields x ≡ x ∷ []
last_field x h l = ap (filter (λ f. not (nat_eq (length f) 0))) (slice_split_none is_blank x (no_blanks x h)) ∙ kept x [] l

one_byte : (c : ℕ) → 33 ≤ c → AllFrom 33 (c ∷ [])
one_byte c h = All-cons (λ b. 33 ≤ b) c [] h (All-nil (λ b. 33 ≤ b))

pub state_fields : (x d : List ℕ) (c : ℕ) → AllFrom 33 x → 0 < length x → 33 ≤ c → AllFrom 33 d → 0 < length d
    → fields (x ++ replicate 5 32 ++ c ∷ [] ++ replicate 15 32 ++ d) ≡ x ∷ (c ∷ []) ∷ d ∷ []
state_fields x d c hx lx hc hd ld =
    let whole : x ++ replicate 5 32 ++ c ∷ [] ++ replicate 15 32 ++ d ≡ x ++ 32 ∷ (replicate 4 32 ++ (c ∷ (32 ∷ (replicate 14 32 ++ d)))) = simp append_assoc in
    ap fields whole ∙ first_field x (replicate 4 32 ++ (c ∷ (32 ∷ (replicate 14 32 ++ d)))) hx lx
    ∙ ap (λ fs. x ∷ fs) (first_field (c ∷ []) (replicate 14 32 ++ d) (one_byte c hc) (omega arith))
    ∙ ap (λ fs. x ∷ (c ∷ []) ∷ fs) (last_field d hd ld)

pub block_fields : (x y : List ℕ) (c : ℕ) → AllFrom 33 x → 0 < length x → AllFrom 33 y → 0 < length y → 33 ≤ c
    → fields (x ++ codes "  " ++ y ++ codes "  " ++ c ∷ []) ≡ x ∷ y ∷ (c ∷ []) ∷ []
block_fields x y c hx lx hy ly hc =
    let whole : x ++ codes "  " ++ y ++ codes "  " ++ c ∷ [] ≡ x ++ 32 ∷ (32 ∷ (y ++ 32 ∷ (32 ∷ (c ∷ [])))) = simp append_assoc in
    ap fields whole ∙ first_field x (32 ∷ (y ++ 32 ∷ (32 ∷ (c ∷ [])))) hx lx
    ∙ ap (λ fs. x ∷ fs) (first_field y (32 ∷ (c ∷ [])) hy ly)
    ∙ ap (λ fs. x ∷ y ∷ fs) (last_field (c ∷ []) (one_byte c hc) (omega arith))
