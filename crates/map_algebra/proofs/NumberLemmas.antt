-- Numbers of lines, one after another.
use Rattle.std.proofs.Common.{◌≡◌, ℕ, ◌+◌, ◌≤◌, Bool, not, eqb, List, [], ◌∷◌, ◌++◌, length, append_assoc, Option, Some, None, Result, Ok, Err, refl, sym, ap, ◌∙◌, arith}
use Rattle.std.proofs.lemmas.List.Sums.{length-filter, count_by-le-length}
use Rattle.std.proofs.lemmas.List.Splits.{length-slice_split}
use Rattle.mapfile_text.specs.Lines.{Line, lines, numbered_lines, filled_lines}
use Rattle.mapfile_reader.specs.Cursor.{OpenLine, line_of}
use Rattle.mapfile_reader.proofs.LineLemmas.{length-numbered}
use Rattle.map_algebra.specs.declared.shape.Shape.{Shape}
use Rattle.map_algebra.specs.declared.numbers.NumberError.{NumberError}
use Rattle.map_algebra.specs.declared.numbers.NumberError.TheVariants.{BadNumber}
use Rattle.map_algebra.specs.Numbers.{number_in, in_front_of, numbers_of, checked}

-- a text has at most as many lines that aren't blank as newlines, and one
pub few_filled : (text : List ℕ) → length (filled_lines text) ≤ length text + 1
few_filled text =
    let newline : ℕ → Bool = λ b. eqb b 10 in
    omega (
      arith,
      length-filter (λ (l : Line). not (eqb (length l.fields) 0)) (numbered_lines 1 (lines text)),
      count_by-le-length (λ (l : Line). not (eqb (length l.fields) 0)) (numbered_lines 1 (lines text)),
      length-numbered 1 (lines text),
      length-slice_split newline text,
      count_by-le-length newline text,
    )

-- so many numbers, and those of the lines that are left
abbrev pub counted : ℕ → Result (List ℕ) ℕ → Result ℕ NumberError
counted n (Ok ks) = Ok (n + length ks)
counted n (Err line) = Err (BadNumber line)

abbrev as_ok : ℕ → Result ℕ NumberError
as_ok n = Ok n

pub counted-begin : (r : Result (List ℕ) ℕ) → checked r ≡ counted 0 r
counted-begin (Ok ks) = let e : length ks ≡ 0 + length ks = omega arith in ap as_ok e
counted-begin (Err line) = refl

counted-more : (line n k : ℕ) (r : Result (List ℕ) ℕ) → counted n (in_front_of line (Some k) r) ≡ counted (n + 1) r
counted-more line n k (Ok ks) =
    let e : n + length (k ∷ ks) ≡ n + 1 + length ks = omega arith in ap as_ok e
counted-more line n k (Err other) = refl

pub counted-next : (s : Shape) (total : Result ℕ NumberError) (n : ℕ) (ls : List Line) (l : OpenLine) (k : ℕ)
    → total ≡ counted n (numbers_of s ls) → ls ≡ line_of l ∷ l.after → number_in s (line_of l).fields ≡ Some k
    → total ≡ counted (n + 1) (numbers_of s l.after)
counted-next s total n ls l k t e o =
    t ∙ ap (λ (ls : List Line). counted n (numbers_of s ls)) e
    ∙ ap (λ (o : Option ℕ). counted n (in_front_of l.number o (numbers_of s l.after))) o
    ∙ counted-more l.number n k (numbers_of s l.after)

pub counted-fault : (s : Shape) (total : Result ℕ NumberError) (n : ℕ) (ls : List Line) (l : OpenLine)
    → total ≡ counted n (numbers_of s ls) → ls ≡ line_of l ∷ l.after → number_in s (line_of l).fields ≡ None
    → total ≡ Err (BadNumber l.number)
counted-fault s total n ls l t e o =
    t ∙ ap (λ (ls : List Line). counted n (numbers_of s ls)) e
    ∙ ap (λ (o : Option ℕ). counted n (in_front_of l.number o (numbers_of s l.after))) o

pub counted-end : (s : Shape) (total : Result ℕ NumberError) (n : ℕ) (ls : List Line)
    → total ≡ counted n (numbers_of s ls) → ls ≡ [] → total ≡ Ok n
counted-end s total n ls t e =
    let z : n + 0 ≡ n = omega arith in
    t ∙ ap (λ (ls : List Line). counted n (numbers_of s ls)) e ∙ ap as_ok z

-- some numbers in front of those of the lines that are left
abbrev pub after : List ℕ → Result (List ℕ) ℕ → Result (List ℕ) ℕ
after ks (Ok more) = Ok (ks ++ more)
after ks (Err line) = Err line

abbrev as_list : List ℕ → Result (List ℕ) ℕ
as_list ks = Ok ks

pub after-begin : (r : Result (List ℕ) ℕ) → r ≡ after [] r
after-begin (Ok ks) = refl
after-begin (Err line) = refl

after-more : (line k : ℕ) (ks : List ℕ) (r : Result (List ℕ) ℕ)
    → after ks (in_front_of line (Some k) r) ≡ after (ks ++ k ∷ []) r
after-more line k ks (Ok more) = ap as_list (sym (append_assoc ks (k ∷ []) more))
after-more line k ks (Err other) = refl

pub after-next : (s : Shape) (total : Result (List ℕ) ℕ) (ks : List ℕ) (ls : List Line) (l : OpenLine) (k : ℕ)
    → total ≡ after ks (numbers_of s ls) → ls ≡ line_of l ∷ l.after → number_in s (line_of l).fields ≡ Some k
    → total ≡ after (ks ++ k ∷ []) (numbers_of s l.after)
after-next s total ks ls l k t e o =
    t ∙ ap (λ (ls : List Line). after ks (numbers_of s ls)) e
    ∙ ap (λ (o : Option ℕ). after ks (in_front_of l.number o (numbers_of s l.after))) o
    ∙ after-more l.number k ks (numbers_of s l.after)
