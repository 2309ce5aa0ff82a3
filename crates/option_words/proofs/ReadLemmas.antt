-- What a reader has read of the words, one word further.
use Rattle.std.proofs.Common.{◌≡◌, ◌⊎◌, inl, inr, ℕ, ◌+◌, ◌-◌, ◌<◌, ◌≤◌, List, [], ◌∷◌, ◌++◌, length, drop, get_or, Result, Ok, Err, IsOkAnd, IfOk, IfErr, OnOk, refl, sym, ◌∙◌, ap, subst, append_assoc, All, drop_of_length-le, arith}
use Rattle.std.proofs.lemmas.List.{append-nil, drop_more}
use Rattle.std.proofs.lemmas.List.Elements.{All-append, All-same}
use Rattle.std.specs.Str.{IsUtf8}
use Rattle.option_words.specs.declared.row.Row.{Row}
use Rattle.option_words.specs.declared.reading.Item.{Item}
use Rattle.option_words.specs.declared.reading.WordReading.{WordReading}
use Rattle.option_words.specs.declared.reader.NextWord.{NextWord}
use Rattle.option_words.specs.declared.reader.NextWord.TheVariants.{Anything}
use Rattle.option_words.specs.declared.reader.Reader.{Reader}
use Rattle.option_words.specs.declared.fault.WordFault.{WordFault}
use Rattle.option_words.specs.declared.fault.WordFault.TheVariants.{NoMemory}
use Rattle.option_words.specs.Meanings.{Brought, meaning}
use Rattle.option_words.specs.Reading.{IsServed, IsUnserved, Bring, HasFault, IsReading, WordFaultAt}
use Rattle.option_words.specs.Spots.{HasSpot}
use Rattle.option_words.specs.Taken.{IsFaultOf, Took}
use Rattle.option_words.specs.Words.{word}
use Rattle.option_words.proofs.ResultLemmas.{ok_and_parts}
use Rattle.option_words.proofs.SpotLemmas.{meaning_spots}

-- A reader has read the first i words: what the others bring after them comes after what it has, and what breaks there
-- breaks all.
pub record Read (rows : List Row) (words : List (List ℕ)) (i : ℕ) (reader : Reader) : Type 0 where
  pub brings : (items : List Item) (operands : List ℕ) → Bring rows reader.next (i + 1) (drop i words) items operands
      → Bring rows Anything 1 words (reader.items.items ++ items) (reader.operands.items ++ operands)
  pub breaks : (fault : WordFault) → HasFault rows reader.next (i + 1) (drop i words) fault → HasFault rows Anything 1 words fault
  pub spots : All (HasSpot words) reader.items.items

regroup : {A : Type 0} (xs ys zs new : List A) → new ≡ xs ++ ys → xs ++ (ys ++ zs) ≡ new ++ zs
regroup xs ys zs new e = sym (append_assoc xs ys zs) ∙ ap (λ v. v ++ zs) (sym e)

bring_same : (rows : List Row) (next : NextWord) (n : ℕ) (words : List (List ℕ)) (is js : List Item) (os ps : List ℕ)
    → is ≡ js → os ≡ ps → Bring rows next n words is os → Bring rows next n words js ps
bring_same rows next n words is js os ps e d h =
    let P : List Item → Type 0 = λ v. Bring rows next n words v os in
    let Q : List ℕ → Type 0 = λ v. Bring rows next n words js v in
    subst Q d (subst P e h)

back : (i : ℕ) → i + 1 - 1 ≡ i
back i = omega arith

-- the words from the i-th on begin with it
front : (words : List (List ℕ)) (i : ℕ) (w : List ℕ) → i < length words → w ≡ word words (i + 1) → drop i words ≡ w ∷ drop (i + 1) words
front words i w within is =
    drop_more words i [] within ∙ ap (λ (v : List ℕ). v ∷ drop (i + 1) words) (sym (is ∙ ap (λ k. get_or words k []) (back i)))

-- one word more
pub read_more : (rows : List Row) (words : List (List ℕ)) (i : ℕ) (old new : Reader) (w : List ℕ)
    → i < length words → w ≡ word words (i + 1) → IsUtf8 w
    → Read rows words i old → IsOkAnd (meaning rows old.next (i + 1) w) (λ b. Took old new b) → Read rows words (i + 1) new
read_more rows words i old new w within is utf8 read went =
    let here_is : drop i words ≡ w ∷ drop (i + 1) words = front words i w within is in
    let parts = ok_and_parts (meaning rows old.next (i + 1) w) (λ b. Took old new b) went in
    let b : Brought = parts.0 in
    let took : Took old new b = parts.2 in
    record {
      brings = λ items operands h.
          let after : Bring rows b.next (i + 1 + 1) (drop (i + 1) words) items operands = rw took.next at h in
          let here : Bring rows old.next (i + 1) (w ∷ drop (i + 1) words) (b.items ++ items) (b.operands ++ operands)
          = (b, items, operands, parts.1, refl, refl, after) in
          let Here : List (List ℕ) → Type 0 = λ ws. Bring rows old.next (i + 1) ws (b.items ++ items) (b.operands ++ operands) in
          bring_same rows Anything 1 words _ _ _ _ (regroup _ _ items _ took.items) (regroup _ _ operands _ took.operands)
          (read.brings (b.items ++ items) (b.operands ++ operands) (subst Here (sym here_is) here));
      breaks = λ fault h.
          let after : HasFault rows b.next (i + 1 + 1) (drop (i + 1) words) fault = rw took.next at h in
          let Here : List (List ℕ) → Type 0 = λ ws. HasFault rows old.next (i + 1) ws fault in
          read.breaks fault (subst Here (sym here_is) (inr (b, parts.1, after)));
      spots = All-same (HasSpot words) _ _ took.items
          (All-append (HasSpot words) _ _ read.spots (meaning_spots rows words old.next (i + 1) w b (omega arith) (omega arith) is utf8 parts.1));
    }

-- all words are read
pub read_all : (result : Result WordReading WordFault) (rows : List Row) (words : List (List ℕ)) (i : ℕ) (reader : Reader) → length words ≤ i
    → Read rows words i reader → OnOk result (IsServed reader.next) → IfOk result (λ r. r.items.items ≡ reader.items.items)
    → IfOk result (λ r. r.operands.items ≡ reader.operands.items) → IfOk result (λ r. IsReading rows words r.items.items r.operands.items)
read_all (Ok r) rows words i reader past read served items_are operands_are =
    let AtEnd : List (List ℕ) → Type 0 = λ ws. Bring rows reader.next (i + 1) ws [] [] in
    record {
      brings = bring_same rows Anything 1 words _ _ _ _ (append-nil _ ∙ sym items_are) (append-nil _ ∙ sym operands_are)
          (read.brings [] [] (subst AtEnd (sym (drop_of_length-le words past)) (served, refl, refl)));
    }
read_all (Err e) rows words i reader past read served items_are operands_are = tt

-- the values of all words stand in them
pub read_spots : (result : Result WordReading WordFault) (rows : List Row) (words : List (List ℕ)) (i : ℕ) (reader : Reader)
    → Read rows words i reader → IfOk result (λ r. r.items.items ≡ reader.items.items) → IfOk result (λ r. All (HasSpot words) r.items.items)
read_spots (Ok r) rows words i reader read items_are = All-same (HasSpot words) _ _ items_are read.spots
read_spots (Err e) rows words i reader read items_are = tt

-- the first word that has a fault gives it to all words
pub read_breaks : (rows : List Row) (words : List (List ℕ)) (i : ℕ) (reader : Reader) (w : List ℕ) (fault : WordFault)
    → i < length words → w ≡ word words (i + 1) → Read rows words i reader
    → IsFaultOf (meaning rows reader.next (i + 1) w) fault → (fault ≡ NoMemory) ⊎ WordFaultAt rows words fault
read_breaks rows words i reader w fault within is read (inl short) = inl short
read_breaks rows words i reader w fault within is read (inr meant) =
    let Here : List (List ℕ) → Type 0 = λ ws. HasFault rows reader.next (i + 1) ws fault in
    inr (record { breaks = read.breaks fault (subst Here (sym (front words i w within is)) (inl meant)) })

-- an option still wants a value after the last word
pub read_unserved : (result : Result WordReading WordFault) (rows : List Row) (words : List (List ℕ)) (i : ℕ)
    (reader : Reader)
    → length words ≤ i → Read rows words i reader → IfErr result (λ e. IsUnserved reader.next e)
    → IfErr result (λ e. (e ≡ NoMemory) ⊎ WordFaultAt rows words e)
read_unserved (Ok r) rows words i reader past read unserved = tt
read_unserved (Err e) rows words i reader past read unserved =
    let AtEnd : List (List ℕ) → Type 0 = λ ws. HasFault rows reader.next (i + 1) ws e in
    inr (record { breaks = read.breaks e (subst AtEnd (sym (drop_of_length-le words past)) unserved) })
