-- Texts of the elements of a list, appended one after another.
use Rattle.std.proofs.Common.{◌≡◌, ℕ, List, ◌++◌, ap, ◌∙◌, append_assoc}

-- two parts, appended one after the other
pub joined : (a b start before after : List ℕ) → before ≡ start ++ a → after ≡ before ++ b → after ≡ start ++ (a ++ b)
joined a b start before after e f = f ∙ ap (λ t. t ++ b) e ∙ append_assoc start a b
