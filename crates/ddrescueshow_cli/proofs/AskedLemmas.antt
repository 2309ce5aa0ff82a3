-- Words that ask to follow a rescue ask for no picture, and one fault decides.
use Rattle.std.proofs.Common.{◌≡◌, ◌↔◌, ◌≤◌, ℕ, Bool, true, false, IsTrue, List, refl, sym, ap, subst}
use Rattle.std.specs.Prelude.{codes}
use Rattle.option_words.specs.Words.{word}
use Rattle.option_words.specs.declared.fault.UsageFault.{UsageFault}
use Rattle.option_words.specs.Grammar.{IsRefusalBy}
use Rattle.option_words.proofs.MeaningLemmas.{one_meaning}
use Rattle.ddrescueshow_words.specs.Command.{AreRefused, Asks, Command, IsAsked, show_grammar}
use Rattle.ddrescueshow_cli.specs.Following.{AskToFollow, IsAtProgress}

-- words that ask for a picture
pub drawn : (words : List (List ℕ)) (c : Command) → IsAsked words c → IsTrue false ↔ AskToFollow words
drawn words c asked = (
  (λ is. cc is),
  (λ f. absurd ((one_meaning show_grammar words).either c f.fault asked.only.asks f.refused)),
)

-- words that are refused
pub followed : (words : List (List ℕ)) (fault : UsageFault) (quiet is : Bool) → IsRefusalBy show_grammar words fault quiet
    → IsTrue is ↔ IsAtProgress words fault → IsTrue is ↔ AskToFollow words
followed words fault quiet is refusal by = (
  (λ holds. record { fault = fault; refused = refusal.refused; is = by.0 holds }),
  (λ f.
      let same : f.fault ≡ fault = (one_meaning show_grammar words).fault f.fault fault f.refused refusal.refused in
      by.1 (subst (IsAtProgress words) same f.is)),
)

-- refused words ask for no picture
pub undrawn : (words : List (List ℕ)) (fault : UsageFault) (quiet is : Bool) → IsRefusalBy show_grammar words fault quiet
    → (c : Command) → Asks words c → is ≡ false
undrawn words fault quiet is refusal c asks = absurd (refusal.nothing c asks)
