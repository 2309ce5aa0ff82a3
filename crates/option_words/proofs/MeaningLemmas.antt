-- By any grammar words ask for one thing, or are refused for one fault.
use Rattle.std.proofs.Common.{◌≡◌, ◌↔◌, ◌⊎◌, inl, inr, ◌≤◌, ℕ, Bool, true, false, List, length, map, All, Ok, Err, refl, sym, ◌∙◌, ap, subst}
use Rattle.std.proofs.lemmas.List.Elements.{All-weaker}
use Rattle.option_words.specs.Rows.{meaning_of_row}
use Rattle.option_words.specs.declared.row.Row.{Row}
use Rattle.option_words.specs.declared.reading.Item.{Item}
use Rattle.option_words.specs.declared.fault.WordFault.{WordFault}
use Rattle.option_words.specs.declared.fault.WordFault.TheVariants.{NoMemory}
use Rattle.option_words.specs.declared.fault.UsageFault.{UsageFault}
use Rattle.option_words.specs.declared.fault.UsageFault.TheVariants.{Word}
use Rattle.option_words.specs.declared.command_error.CommandError.{CommandError}
use Rattle.option_words.specs.declared.command_error.CommandError.TheVariants.{Usage}
use Rattle.option_words.specs.Reading.{IsReading, WordFaultAt}
use Rattle.option_words.proofs.LawLemmas.{one_reading, one_fault, no_fault}
use Rattle.option_words.proofs.MeantLemmas.{same_reading, same_fault}
use Rattle.option_words.proofs.OperandLemmas.{operands_words}
use Rattle.option_words.specs.Asked.{IsRefusedAs, CannotRead, Refuses}
use Rattle.option_words.specs.Values.{IsWord, is_given, quiet_letter}
use Rattle.option_words.specs.Grammar.{Grammar, AreOptionsOf, AskFor, AreRefusedBy, Unread, Wrong, AskSilence, HasOneMeaning, AskForOnly, IsAskedWithin, IsRefusalBy, IsErrorBy, unread_error}

module _ {C : Type 0} (g : Grammar C) (words : List (List ℕ)) where
  -- two readings by the options are one
  one_items : (rows rows' : List Row) (is js : List Item) (os ps : List ℕ) → AreOptionsOf g rows → AreOptionsOf g rows'
      → IsReading rows words is os → IsReading rows' words js ps → (is ≡ js) × (os ≡ ps)
  one_items rows rows' is js os ps a b p q =
      one_reading rows words is js os ps p (same_reading rows' rows words js ps (b.meanings ∙ sym a.meanings) q)

  one_verdict : (rows rows' : List Row) (is js : List Item) (os ps : List ℕ) → AreOptionsOf g rows
      → AreOptionsOf g rows' → IsReading rows words is os → IsReading rows' words js ps
      → g.asked words is os ≡ g.asked words js ps
  one_verdict rows rows' is js os ps a b p q =
      let same = one_items rows rows' is js os ps a b p q in
      ap (λ x. g.asked words x os) same.0 ∙ ap (g.asked words js) same.1

  no_both : (rows rows' : List Row) (is : List Item) (os : List ℕ) (f : WordFault) → AreOptionsOf g rows
      → AreOptionsOf g rows' → IsReading rows words is os → WordFaultAt rows' words f → ⊥
  no_both rows rows' is os f a b p q =
      no_fault rows words is os f p (same_fault rows' rows words f (b.meanings ∙ sym a.meanings) q)

  pub one_command : (c c' : C) → AskFor g words c → AskFor g words c' → c ≡ c'
  one_command c c' p q =
      let same =
      one_verdict p.rows q.rows p.items q.items p.operands q.operands p.options q.options p.reading q.reading in
      let is = p.is in
      let is' = q.is in
      cc

  pub asked_or_refused : (c : C) (f : UsageFault) → AskFor g words c → AreRefusedBy g words f → ⊥
  asked_or_refused c f p q = elim q [
    | Unread rows h o w e ↦ no_both p.rows rows p.items p.operands h p.options o p.reading w
    | Wrong rows is os o r e ↦
        let same = one_verdict p.rows rows p.items is p.operands os p.options o p.reading r in
        let is = p.is in absurd (cc)
  ]

  one_refusal : (f f' : UsageFault) → AreRefusedBy g words f → AreRefusedBy g words f' → f ≡ f'
  one_refusal f f' p q = elim p [
    | Unread rows h o w e ↦ elim q [
      | Unread rows' h' o' w' e' ↦
          e ∙ ap Word (one_fault rows words h h' w
          (same_fault rows' rows words h' (o'.meanings ∙ sym o.meanings) w')) ∙ sym e'
      | Wrong rows' js ps o' r' e' ↦ absurd (no_both rows' rows js ps h o' o r' w)
    ]
    | Wrong rows is os o r e ↦ elim q [
      | Unread rows' h' o' w' e' ↦ absurd (no_both rows rows' is os h' o o' r w')
      | Wrong rows' js ps o' r' e' ↦
          let same = one_verdict rows rows' is js os ps o o' r r' in
          cc
    ]
  ]

  -- words ask for one thing at most, are refused for one fault at most, and never both
  pub one_meaning : HasOneMeaning g words
  one_meaning = record { command = one_command; fault = one_refusal; either = asked_or_refused }

  -- whether words ask that nothing be said, by a reading
  silence_by_reading : (rows : List Row) (is : List Item) (os : List ℕ) → AreOptionsOf g rows
      → IsReading rows words is os → AskSilence g words ↔ (is_given g.options g.quiet is ≡ true)
  silence_by_reading rows is os o r = (
    (λ p. ap (is_given g.options g.quiet)
        (one_items rows p.rows is p.items os p.operands o p.options r p.reading).0 ∙ p.quiet),
    (λ e. record { rows = rows; options = o; items = is; operands = os; reading = r; quiet = e }),
  )

  -- what a reading asks for is what its words ask for, and nothing else
  pub reading_asks : (rows : List Row) (is : List Item) (os : List ℕ) (c : C) → AreOptionsOf g rows
      → IsReading rows words is os → g.asked words is os ≡ Ok c
      → AskForOnly g words c (is_given g.options g.quiet is)
  reading_asks rows is os c o r e =
      let asks : AskFor g words c =
      record { rows = rows; options = o; items = is; operands = os; reading = r; is = e } in
      record {
        asks = asks;
        alone = λ other p. one_command other c p asks;
        accepted = λ fault q. asked_or_refused c fault asks q;
        quiet_is = silence_by_reading rows is os o r;
      }

  -- what a reading asks for within limits, where no message is put if an option asks for none
  pub asked_within : (rows : List Row) (is : List Item) (os : List ℕ) (c : C) (Limits : Type 0) (silent : Bool)
      → AreOptionsOf g rows → IsReading rows words is os → g.asked words is os ≡ Ok c → Limits
      → silent ≡ is_given g.options g.quiet is → IsAskedWithin g words c Limits silent
  asked_within rows is os c Limits silent o r e limits same =
      let only = reading_asks rows is os c o r e in
      record { only = subst (AskForOnly g words c) (sym same) only; limits = limits }

  -- the same of a reading that is refused
  pub reading_refused : (rows : List Row) (is : List Item) (os : List ℕ) (f : UsageFault) → AreOptionsOf g rows
      → IsReading rows words is os → g.asked words is os ≡ Err f
      → IsRefusalBy g words f (is_given g.options g.quiet is)
  reading_refused rows is os f o r e =
      let refused : AreRefusedBy g words f = Wrong rows is os o r e in
      record {
        refused = refused;
        nothing = λ c p. asked_or_refused c f p refused;
        quiet_is = silence_by_reading rows is os o r;
      }

  -- which is why words ask for nothing
  pub refused_is : (rows : List Row) (is items : List Item) (os : List ℕ) (f : UsageFault) → AreOptionsOf g rows
      → IsReading rows words is os → g.asked words is os ≡ Err f → items ≡ is
      → IsErrorBy g words (Usage f (is_given (map meaning_of_row rows) g.quiet items))
  refused_is rows is items os f o r e same =
      let quiet : is_given (map meaning_of_row rows) g.quiet items ≡ is_given g.options g.quiet is =
      ap (is_given (map meaning_of_row rows) g.quiet) same ∙ ap (λ t. is_given t g.quiet is) o.meanings in
      subst (λ q. IsRefusalBy g words f q) (sym quiet) (reading_refused rows is os f o r e)

  not_quiet : (rows : List Row) (f : WordFault) → AreOptionsOf g rows → WordFaultAt rows words f → AskSilence g words
      → false ≡ true
  not_quiet rows f o w p = absurd (no_both p.rows rows p.items p.operands f p.options o p.reading w)

  unread_refused : (rows : List Row) (f : WordFault) → AreOptionsOf g rows → WordFaultAt rows words f
      → IsRefusalBy g words (Word f) false
  unread_refused rows f o w =
      let refused : AreRefusedBy g words (Word f) = Unread rows f o w refl in
      let never : false ≡ true → AskSilence g words = λ e. absurd (cc) in
      record {
        refused = refused;
        nothing = λ c p. asked_or_refused c (Word f) p refused;
        quiet_is = (not_quiet rows f o w, never);
      }

  -- a fault of words is their refusal, except for lack of memory
  pub unread_is : (rows : List Row) (f : WordFault) → AreOptionsOf g rows → (f ≡ NoMemory) ⊎ WordFaultAt rows words f
      → IsErrorBy g words (unread_error f)
  unread_is rows NoMemory o w = tt
  unread_is rows x o w =
      elim w [ inl e ↦ absurd (cc) | inr at ↦ unread_refused rows x o at ]

  -- an error of the one reading is why words ask for nothing
  pub refused_as : (error : CommandError) → g.quiet ≡ quiet_letter
      → IsRefusedAs g.options words (λ items operands f. g.asked words items operands ≡ Err f) error
      → IsErrorBy g words error
  refused_as error quiet r = elim r [
    | CannotRead rows f m w e ↦ subst (IsErrorBy g words) (sym e) (unread_is rows f (record { meanings = m }) w)
    | Refuses rows is os f m reading at e ↦
        let same : Usage f (is_given (map meaning_of_row rows) g.quiet is) ≡ error =
        ap (λ q. Usage f (is_given (map meaning_of_row rows) q is)) quiet ∙ sym e in
        subst (IsErrorBy g words) same (refused_is rows is is os f (record { meanings = m }) reading at refl)
  ]

-- the operands of a reading are words
pub operands_named : (words : List (List ℕ)) (rows : List Row) (is : List Item) (os : List ℕ)
    → IsReading rows words is os → All (IsWord words) os
operands_named words rows is os r =
    let is_word : (n : ℕ) → (1 ≤ n) × (n ≤ length words) → IsWord words n =
    λ n h. record { counted = h.0; within = h.1 } in
    All-weaker (λ n. (1 ≤ n) × (n ≤ length words)) (IsWord words) is_word os (operands_words rows words is os r)
