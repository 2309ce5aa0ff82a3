-- The text of a line, part by part.
use Rattle.std.proofs.Common.{◌≡◌, ℕ, List, ◌++◌, sym, ap, ◌∙◌, append_assoc}

-- parts that were added one after another
pub parts_join : (end last front t u v w x y z s r a b c d e f g h i j k l m n : List ℕ) → t ≡ front ++ a ++ b
    → u ≡ t ++ c ++ d → v ≡ u ++ e ++ f → w ≡ v ++ g ++ h → x ≡ w ++ i ++ j → y ≡ x ++ k ++ l → z ≡ y ++ m
    → s ≡ z ++ n → r ≡ s ++ (end ++ last)
    → r ≡ front ++ a ++ b ++ c ++ d ++ e ++ f ++ g ++ h ++ i ++ j ++ k ++ l ++ m ++ n ++ end ++ last
parts_join end last front t u v w x y z s r a b c d e f g h i j k l m n pt pu pv pw px py pz ps pr =
    pr ∙ ap (λ q. q ++ (end ++ last)) (ps ∙ ap (λ q. q ++ n) (pz ∙ ap (λ q. q ++ m) (py ∙ ap (λ q. q ++ k ++ l)
    (px ∙ ap (λ q. q ++ i ++ j) (pw ∙ ap (λ q. q ++ g ++ h) (pv ∙ ap (λ q. q ++ e ++ f)
    (pu ∙ ap (λ q. q ++ c ++ d) pt)))))))
    ∙ sym (append_assoc (front ++ a ++ b ++ c ++ d ++ e ++ f ++ g ++ h ++ i ++ j ++ k ++ l ++ m ++ n) end last)
