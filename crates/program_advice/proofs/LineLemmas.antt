-- What is printed of a text is one line.
use Rattle.std.proofs.Common.{◌≡◌, ◌≤◌, ◌++◌, ℕ, false, List, [], ◌∷◌, length, get_or, map, nat_eq, ap, ◌∙◌, append_assoc, arith}
use Rattle.std.proofs.lemmas.Bool.Decides.{nat_tests}
use Rattle.std.proofs.lemmas.List.Elements.{All-map}
use Rattle.std.proofs.lemmas.List.{length-map, length-append}
use Rattle.mapfile_text.specs.Printed.{shown_byte}
use Rattle.program_advice.specs.Lines.{IsOneLine}

shown_from : (b : ℕ) → 32 ≤ shown_byte b
shown_from b = grind (arith, nat_tests)

no_delete : (b : ℕ) → nat_eq (shown_byte b) 127 ≡ false
no_delete b = grind (arith, nat_tests)

-- three pieces that are added one after another, four, and five
pub three_added : (a b c d x y z : List ℕ) → x ≡ a ++ b → y ≡ x ++ c → z ≡ y ++ d → z ≡ a ++ (b ++ c ++ d)
three_added a b c d x y z f g h =
    h ∙ ap (λ t. t ++ d) (g ∙ ap (λ t. t ++ c) f ∙ append_assoc a b c) ∙ append_assoc a (b ++ c) d

pub four_added : (a b c d e w x y z : List ℕ) → w ≡ a ++ b → x ≡ w ++ c → y ≡ x ++ d → z ≡ y ++ e
    → z ≡ a ++ (b ++ c ++ d ++ e)
four_added a b c d e w x y z f g h i =
    i ∙ ap (λ t. t ++ e) (three_added a b c d w x y f g h) ∙ append_assoc a (b ++ c ++ d) e

pub five_added : (a b c d e f v w x y z : List ℕ) → v ≡ a ++ b → w ≡ v ++ c → x ≡ w ++ d → y ≡ x ++ e → z ≡ y ++ f
    → z ≡ a ++ (b ++ c ++ d ++ e ++ f)
five_added a b c d e f v w x y z g h i j k =
    k ∙ ap (λ t. t ++ f) (four_added a b c d e v w x y g h i j) ∙ append_assoc a (b ++ c ++ d ++ e) f

-- a text of up to 511 bytes and a newline
pub one_line : (text line : List ℕ) → line ≡ map shown_byte text ++ 10 ∷ [] → length text ≤ 511 → IsOneLine line
one_line text line e short = record {
  front = map shown_byte text;
  ended = e;
  controls = All-map (λ b. 32 ≤ b) shown_byte text (λ k d l. shown_from (get_or text k d));
  deletes = All-map (λ b. nat_eq b 127 ≡ false) shown_byte text (λ k d l. no_delete (get_or text k d));
  short = omega (arith, ap length e, length-append (map shown_byte text) (10 ∷ []), length-map text shown_byte, short);
}
