-- Lines that are added one by one.
use Rattle.std.proofs.Common.{◌≡◌, ℕ, List, [], ◌++◌, ap, ◌∙◌}

pub seven_lines : (s t u v w x y z a b c d e f g : List ℕ) → s ≡ [] → t ≡ s ++ a → u ≡ t ++ b → v ≡ u ++ c → w ≡ v ++ d
    → x ≡ w ++ e → y ≡ x ++ f → z ≡ y ++ g → z ≡ a ++ b ++ c ++ d ++ e ++ f ++ g
seven_lines s t u v w x y z a b c d e f g hs ht hu hv hw hx hy hz =
    hz ∙ ap (λ l. l ++ g) (hy ∙ ap (λ l. l ++ f) (hx ∙ ap (λ l. l ++ e) (hw ∙ ap (λ l. l ++ d)
    (hv ∙ ap (λ l. l ++ c) (hu ∙ ap (λ l. l ++ b) (ht ∙ ap (λ l. l ++ a) hs))))))
