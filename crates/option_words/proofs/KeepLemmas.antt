-- What options keep that are set one after the other: their sector, their limits, and whether they ask that nothing be
-- said.
use Rattle.std.proofs.Common.{◌≡◌, ℕ, Bool, true, false, cond, ◌||◌, List, [], ◌∷◌, slice_get, Option, Some, None, Result, Ok, Err, refl, sym, ◌∙◌, ap, subst}
use Rattle.std.proofs.Math.Bool.{or_assoc}
use Rattle.std.proofs.lemmas.Option.{same_Some}
use Rattle.std.specs.Option.{option_map, option_and_then}
use Rattle.size_suffixes.specs.Sectors.{IsSector}
use Rattle.option_words.specs.Rows.{is_letter}
use Rattle.option_words.specs.declared.reading.Item.{Item}
use Rattle.option_words.specs.Values.{OptionRow, default_sector, is_given, is_of, letter_meant, meanings_of, options_in, options_with, quiet_letter, sector_letter, set_by, set_in_turn, value_of, with_item, with_sector, word_at}
use Rattle.option_words.proofs.RowLemmas.{EachRow, letter_given, row_passes}
use Rattle.option_words.proofs.TurnLemmas.{default_is, sector_in_turn, turn_parts}
use Rattle.option_words.proofs.ValueLemmas.{map_part, or_part}
use Rattle.option_words.proofs.QuietLemmas.{or_false}

-- ---- any fact of what options set

-- a fact of whatever the option of a row sets, by its letter and its value
abbrev pub OfRow : {O : Type 0} → (ℕ → O → Option ℕ → Option (List ℕ) → O → Type 0) → OptionRow O → Type 0
OfRow {O} P r = (sector : ℕ) (o o' : O) (value : Option (List ℕ)) → r.sets sector o value ≡ Some o'
    → P sector o r.letter value o'

module _ {O : Type 0} (P : ℕ → O → Option ℕ → Option (List ℕ) → O → Type 0) (rows : List (OptionRow O))
    (each : EachRow (OfRow P) rows) (sector : ℕ) where
  -- the option of a row, if there is one
  row_holds : (o o' : O) (k : ℕ) (r : Option (OptionRow O)) (value : Option (List ℕ)) → slice_get rows k ≡ r
      → set_by r sector o value ≡ Some o' → P sector o (letter_meant (slice_get (meanings_of rows) k)) value o'
  row_holds o o' k None value at e = absurd (cc)
  row_holds o o' k (Some r) value at e =
      let letter : letter_meant (slice_get (meanings_of rows) k) ≡ r.letter =
      letter_given rows k ∙ ap (option_and_then (λ (r : OptionRow O). r.letter)) at in
      subst (λ (l : Option ℕ). P sector o l value o') (sym letter)
      (row_passes (OfRow P) rows k r each at sector o o' value e)

  -- an option that was given
  pub item_holds : (words : List (List ℕ)) (o o' : O) (i : Item) → with_item rows sector words o i ≡ Ok o'
      → P sector o (letter_meant (slice_get (meanings_of rows) i.row)) (value_of words i.value) o'
  item_holds words o o' i e =
      let value = value_of words i.value in
      let at = slice_get rows i.row in
      row_holds o o' i.row at value refl (or_part (set_by at sector o value) (word_at i.value) o' e)

-- a fact of all that options set, if it holds of none, and of one more
pub turn_holds : {O : Type 0} (f : O → Item → Result O ℕ) (P : O → List Item → O → Type 0) → ((o : O) → P o [] o)
    → ((o p o' : O) (i : Item) (items : List Item) → f o i ≡ Ok p → P p items o' → P o (i ∷ items) o')
    → (items : List Item) (o o' : O) → set_in_turn f (Ok o) items ≡ Ok o' → P o items o'
turn_holds f P none more [] o o' e = let same : o ≡ o' = cc in subst (P o []) same (none o)
turn_holds f P none more (i ∷ items) o o' e =
    let p = turn_parts f (f o i) items o' e in
    more o p.0 o' i items p.1 (turn_holds f P none more items p.0 o' p.2)

-- options that are accepted were set one after the other, by a sector that is accepted
pub set_by_sector : {O : Type 0} (rows : List (OptionRow O)) (letter : ℕ) (none : ℕ → O) (words : List (List ℕ))
    (items : List Item) (o : O) → options_in rows letter none words items ≡ Ok o
    → (n : ℕ) × IsSector n × (set_in_turn (with_item rows n words) (Ok (none n)) items ≡ Ok o)
set_by_sector {O} rows letter none words items o e =
    by_sector (set_in_turn (with_sector (meanings_of rows) letter words) (Ok default_sector) items) refl e where
      by_sector : (sector : Result ℕ ℕ)
          → set_in_turn (with_sector (meanings_of rows) letter words) (Ok default_sector) items ≡ sector
          → options_with rows none words items sector ≡ Ok o
          → (n : ℕ) × IsSector n × (set_in_turn (with_item rows n words) (Ok (none n)) items ≡ Ok o)
      by_sector (Err n) at e = absurd (cc)
      by_sector (Ok n) at e =
          (n, sector_in_turn (meanings_of rows) letter words items default_sector n default_is at, e)

-- ---- what all programs' options keep

-- the sector of a program's options, their limits where sizes go by a sector, and whether they ask that nothing be said
pub record Kept (O : Type 0) : Type 1 where
  pub sector : O → ℕ
  pub InRange : (sector : ℕ) → O → Type 0
  pub quiet : O → Bool

-- what an option keeps; `quiet` says whether it asks that nothing be said
pub record Keeps {O : Type 0} (k : Kept O) (sector : ℕ) (o : O) (quiet : Bool) (o' : O) : Type 0 where
  pub same : k.sector o' ≡ k.sector o
  pub range : k.InRange sector o → k.InRange sector o'
  pub quiet_is : k.quiet o' ≡ (k.quiet o || quiet)

-- the same by its letter, of each option of a row
abbrev pub KeepsBy : {O : Type 0} → Kept O → ℕ → O → Option ℕ → Option (List ℕ) → O → Type 0
KeepsBy k sector o letter value o' = Keeps k sector o (is_letter quiet_letter letter) o'

abbrev pub RowKeeps : {O : Type 0} → Kept O → OptionRow O → Type 0
RowKeeps k r = OfRow (KeepsBy k) r

module _ {O : Type 0} (k : Kept O) (sector : ℕ) (o o' : O) where
  -- an option with no value
  pub flag_keeps : (quiet : Bool) (n : O) → k.sector n ≡ k.sector o → (k.InRange sector o → k.InRange sector n)
      → k.quiet n ≡ (k.quiet o || quiet) → Some n ≡ Some o' → Keeps k sector o quiet o'
  flag_keeps quiet n s r q e =
      subst (Keeps k sector o quiet) (same_Some n o' e) (record { same = s; range = r; quiet_is = q })

  -- one that asks for something else than that nothing be said
  pub plain_keeps : (n : O) → k.sector n ≡ k.sector o → (k.InRange sector o → k.InRange sector n)
      → k.quiet n ≡ k.quiet o → Some n ≡ Some o' → Keeps k sector o false o'
  plain_keeps n s r q e = flag_keeps false n s r (q ∙ or_false (k.quiet o)) e

  -- one that names a map, which must have a name
  pub name_keeps : (b : Bool) → cond b (Some o) None ≡ Some o' → Keeps k sector o false o'
  name_keeps true e = plain_keeps o refl (λ h. h) refl e
  name_keeps false e = absurd (cc)

  -- one with a value
  pub value_keeps : {A : Type 0} (f : A → O) (m : Option A) → ((x : A) → k.sector (f x) ≡ k.sector o)
      → ((x : A) → m ≡ Some x → k.InRange sector o → k.InRange sector (f x)) → ((x : A) → k.quiet (f x) ≡ k.quiet o)
      → option_map f m ≡ Some o' → Keeps k sector o false o'
  value_keeps f m s r q e =
      let p = map_part f m o' e in
      plain_keeps (f p.0) (s p.0) (r p.0 p.1) (q p.0) (ap Some p.2)

-- two options, one after the other
pub both_keep : {O : Type 0} (k : Kept O) (sector : ℕ) (o p o' : O) (a b : Bool) → Keeps k sector o a p
    → Keeps k sector p b o' → Keeps k sector o (a || b) o'
both_keep k sector o p o' a b h rest = record {
  same = rest.same ∙ h.same;
  range = λ r. rest.range (h.range r);
  quiet_is = rest.quiet_is ∙ ap (λ q. q || b) h.quiet_is ∙ or_assoc (k.quiet o) a b;
}

pub none_keep : {O : Type 0} (k : Kept O) (sector : ℕ) (o : O) → Keeps k sector o false o
none_keep k sector o = record { same = refl; range = λ h. h; quiet_is = or_false (k.quiet o) }

-- what is asked for where no option but the sector's is given: it is within its limits, and asks for messages
pub record Begins {O : Type 0} (k : Kept O) (sector : ℕ) (o : O) : Type 0 where
  pub same : k.sector o ≡ sector
  pub range : k.InRange sector o
  pub quiet_is : k.quiet o ≡ false

-- options that are accepted are in range, and say nothing where one of them asks for it
pub record AreKept {O : Type 0} (k : Kept O) (o : O) (quiet : Bool) : Type 0 where
  pub range : k.InRange (k.sector o) o
  pub quiet_is : k.quiet o ≡ quiet

pub kept_from : {O : Type 0} (k : Kept O) (sector : ℕ) (o o' : O) (quiet : Bool) → Begins k sector o
    → Keeps k sector o quiet o' → AreKept k o' quiet
kept_from k sector o o' quiet b h =
    let same : k.sector o' ≡ sector = h.same ∙ b.same in
    record {
      range = subst (λ n. k.InRange n o') (sym same) (h.range b.range);
      quiet_is = h.quiet_is ∙ ap (λ q. q || quiet) b.quiet_is;
    }

module _ {O : Type 0} (k : Kept O) (rows : List (OptionRow O)) (each : EachRow (RowKeeps k) rows) where
  items_keep : (sector : ℕ) (words : List (List ℕ)) (items : List Item) (o o' : O)
      → set_in_turn (with_item rows sector words) (Ok o) items ≡ Ok o'
      → Keeps k sector o (is_given (meanings_of rows) quiet_letter items) o'
  items_keep sector words items o o' e =
      turn_holds (with_item rows sector words)
      (λ o items o'. Keeps k sector o (is_given (meanings_of rows) quiet_letter items) o') (none_keep k sector)
      (λ o p o' i items e rest. both_keep k sector o p o' (is_of (meanings_of rows) quiet_letter i)
      (is_given (meanings_of rows) quiet_letter items) (item_holds (KeepsBy k) rows each sector words o p i e) rest)
      items o o' e

  pub options_keep : (none : ℕ → O) → ((n : ℕ) → IsSector n → Begins k n (none n)) → (words : List (List ℕ))
      (items : List Item) (o : O) → options_in rows sector_letter none words items ≡ Ok o
      → AreKept k o (is_given (meanings_of rows) quiet_letter items)
  options_keep none begins words items o e =
      let p = set_by_sector rows sector_letter none words items o e in
      kept_from k p.0 (none p.0) o (is_given (meanings_of rows) quiet_letter items) (begins p.0 p.1)
      (items_keep p.0 words items (none p.0) o p.2)
