-- Words have one reading or one first fault.
use Rattle.std.proofs.Common.{◌≡◌, ◌⊎◌, inl, inr, ℕ, ◌+◌, List, [], ◌∷◌, ◌++◌, Result, Ok, Err, refl, sym, ◌∙◌, ap, subst}
use Rattle.option_words.specs.declared.row.Row.{Row}
use Rattle.option_words.specs.declared.reading.Item.{Item}
use Rattle.option_words.specs.declared.reader.NextWord.{NextWord}
use Rattle.option_words.specs.declared.reader.NextWord.TheVariants.{Anything, Value, Operand}
use Rattle.option_words.specs.declared.fault.WordFault.{WordFault}
use Rattle.option_words.specs.declared.fault.WordFault.TheVariants.{MissingValue}
use Rattle.option_words.specs.Meanings.{Brought, meaning}
use Rattle.option_words.specs.Reading.{IsServed, IsUnserved, Bring, HasFault}
use Rattle.option_words.specs.Laws.{HasOneReading, HasOneFault, ReadingHasNoFault, IsReadOrHasFault}
use Rattle.option_words.proofs.ResultLemmas.{one_ok, one_err, never_both}

bring_once : (rows : List Row) (next : NextWord) (n : ℕ) (words : List (List ℕ)) (is js : List Item) (os ps : List ℕ)
    → Bring rows next n words is os → Bring rows next n words js ps → (is ≡ js) × (os ≡ ps)
bring_once rows next n [] is js os ps p q = (p.1 ∙ sym q.1, p.2 ∙ sym q.2)
bring_once rows next n (w ∷ ws) is js os ps p q =
    let same : p.0 ≡ q.0 = one_ok (meaning rows next n w) p.0 q.0 p.3 q.3 in
    let After : Brought → Type 0 = λ b. Bring rows b.next (n + 1) ws q.1 q.2 in
    let after : Bring rows p.0.next (n + 1) ws q.1 q.2 = subst After (sym same) q.6 in
    let rest : (p.1 ≡ q.1) × (p.2 ≡ q.2) = bring_once rows p.0.next (n + 1) ws p.1 q.1 p.2 q.2 p.6 after in
    let items : p.0.items ≡ q.0.items = ap (λ (b : Brought). b.items) same in
    let operands : p.0.operands ≡ q.0.operands = ap (λ (b : Brought). b.operands) same in
    let items_are = p.4 in
    let items_are' = q.4 in
    let operands_are = p.5 in
    let operands_are' = q.5 in
    let rest_items = rest.0 in
    let rest_operands = rest.1 in
    (cc, cc)

pub one_reading : HasOneReading
one_reading rows words is js os ps p q = bring_once rows Anything 1 words is js os ps p.brings q.brings

unserved_once : (next : NextWord) (f g : WordFault) → IsUnserved next f → IsUnserved next g → f ≡ g
unserved_once Anything f g p q = absurd p
unserved_once (Value wanted) f g p q = p ∙ sym q
unserved_once Operand f g p q = absurd p

break_once : (rows : List Row) (next : NextWord) (n : ℕ) (words : List (List ℕ)) (f g : WordFault)
    → HasFault rows next n words f → HasFault rows next n words g → f ≡ g
break_once rows next n [] f g p q = unserved_once next f g p q
break_once rows next n (w ∷ ws) f g p q = elim p [
  | inl e ↦ elim q [
    | inl d ↦ one_err (meaning rows next n w) f g e d
    | inr d ↦ absurd (never_both (meaning rows next n w) d.0 f d.1 e)
  ]
  | inr e ↦ elim q [
    | inl d ↦ absurd (never_both (meaning rows next n w) e.0 g e.1 d)
    | inr d ↦
        let After : Brought → Type 0 = λ b. HasFault rows b.next (n + 1) ws g in
        let same : d.0 ≡ e.0 = one_ok (meaning rows next n w) d.0 e.0 d.1 e.1 in
        break_once rows e.0.next (n + 1) ws f g e.2 (subst After same d.2)
  ]
]

pub one_fault : HasOneFault
one_fault rows words f g p q = break_once rows Anything 1 words f g p.breaks q.breaks

served_or_not : (next : NextWord) (f : WordFault) → IsServed next → IsUnserved next f → ⊥
served_or_not Anything f p q = q
served_or_not (Value wanted) f p q = p
served_or_not Operand f p q = q

bring_or_break : (rows : List Row) (next : NextWord) (n : ℕ) (words : List (List ℕ)) (is : List Item) (os : List ℕ) (f : WordFault)
    → Bring rows next n words is os → HasFault rows next n words f → ⊥
bring_or_break rows next n [] is os f p q = served_or_not next f p.0 q
bring_or_break rows next n (w ∷ ws) is os f p q = elim q [
  | inl e ↦ never_both (meaning rows next n w) p.0 f p.3 e
  | inr e ↦
      let After : Brought → Type 0 = λ b. HasFault rows b.next (n + 1) ws f in
      let same : e.0 ≡ p.0 = one_ok (meaning rows next n w) e.0 p.0 e.1 p.3 in
      bring_or_break rows p.0.next (n + 1) ws p.1 p.2 f p.6 (subst After same e.2)
]

pub no_fault : ReadingHasNoFault
no_fault rows words is os f p q = bring_or_break rows Anything 1 words is os f p.brings q.breaks

-- the words bring something or break
abbrev Either : List Row → NextWord → ℕ → List (List ℕ) → Type 0
Either rows next n words =
    ((is : List Item) × (os : List ℕ) × Bring rows next n words is os) ⊎ ((f : WordFault) × HasFault rows next n words f)

no_more : (rows : List Row) (next : NextWord) (n : ℕ) → Either rows next n []
no_more rows Anything n = inl ([], [], (tt, refl, refl))
no_more rows (Value wanted) n = inr (MissingValue wanted.word, refl)
no_more rows Operand n = inl ([], [], (tt, refl, refl))

one_more : (rows : List Row) (next : NextWord) (n : ℕ) (w : List ℕ) (ws : List (List ℕ)) (r : Result Brought WordFault)
    → meaning rows next n w ≡ r → ((next' : NextWord) → Either rows next' (n + 1) ws) → Either rows next n (w ∷ ws)
one_more rows next n w ws (Ok b) e after = elim (after b.next) [
  | inl r ↦ inl (b.items ++ r.0, b.operands ++ r.1, (b, r.0, r.1, e, refl, refl, r.2))
  | inr r ↦ inr (r.0, inr (b, e, r.1))
]
one_more rows next n w ws (Err f) e after = inr (f, inl e)

either : (rows : List Row) (next : NextWord) (n : ℕ) (words : List (List ℕ)) → Either rows next n words
either rows next n [] = no_more rows next n
either rows next n (w ∷ ws) =
    one_more rows next n w ws (meaning rows next n w) refl (λ next'. either rows next' (n + 1) ws)

pub read_or_fault : IsReadOrHasFault
read_or_fault rows words = elim (either rows Anything 1 words) [
  | inl r ↦ inl (r.0, r.1, record { brings = r.2 })
  | inr r ↦ inr (r.0, record { breaks = r.1 })
]
