-- What options set, one after the other, is within limits, and says what is done.
use Rattle.std.proofs.Common.{◌≡◌, ℕ, zero, suc, ◌^◌, ◌<◌, Bool, true, false, cond, not, ◌&&◌, ◌||◌, List, [], ◌∷◌, nat_eq, slice_get, count_by, Option, Some, None, Ok, IfSome, refl, sym, ◌∙◌, ap, subst, arith}
use Rattle.std.proofs.lemmas.Option.{same_Some}
use Rattle.std.specs.Option.{option_map, option_and_then}
use Rattle.std.specs.List.{list_all}
use Rattle.std.proofs.lemmas.Bool.{and_parts, not-true}
use Rattle.size_suffixes.specs.Sectors.{IsSector}
use Rattle.block_list.specs.declared.status.Status.{Status}
use Rattle.block_list.specs.Status.{status_of_symbol}
use Rattle.block_list.specs.Types.{types_of}
use Rattle.option_words.specs.Rows.{is_letter}
use Rattle.option_words.specs.declared.reading.Item.{Item}
use Rattle.option_words.specs.Values.{is_given, is_name, is_of, last_of, last_value, later, letter_meant, quiet_letter, sector_letter, size_by, value_of, with_item}
use Rattle.option_words.proofs.LastLemmas.{none_counts}
use Rattle.option_words.proofs.KeepLemmas.{Begins, Keeps, Kept, OfRow, both_keep, flag_keeps, item_holds, kept_from, none_keep, plain_keeps, set_by_sector, turn_holds}
use Rattle.option_words.proofs.RowLemmas.{◌and◌, EachRow, equal_letter}
use Rattle.option_words.proofs.ValueLemmas.{map_part, size_by_below}
use Rattle.option_words.proofs.QuietLemmas.{or_true}
use Rattle.map_algebra.specs.declared.combine.Op.TheVariants.{And, Or, Xor}
use Rattle.map_algebra.specs.Change.{change_of}
use Rattle.ddrescuelog_words.specs.declared.mode.LogMode.{LogMode}
use Rattle.ddrescuelog_words.specs.declared.mode.LogMode.TheVariants.{Change, Combine, Complete, ListBlocks, Create, Compare}
use Rattle.ddrescuelog_words.specs.declared.options.LogOptions.{LogOptions}
use Rattle.ddrescuelog_words.specs.Modes.{created_by, one_type, other_letter, two_types, with_map}
use Rattle.ddrescuelog_words.specs.Options.{as_mode, mode_letters, no_options, option_meanings, option_rows, options_in}

-- ---- which options say what is done

-- a letter is none of these; none of these letters is given
abbrev none_of : Option ℕ → List ℕ → Bool
none_of letter letters = list_all (λ c. not (is_letter c letter)) letters

abbrev pub none_given : List Item → List ℕ → Bool
none_given items letters = list_all (λ c. not (is_given option_meanings c items)) letters

-- What an option of a letter says of what is done: nothing; or it names a mode that works on no other map, or one whose
-- other map it names.
data Tells (letter : Option ℕ) (value : Option (List ℕ)) (o o' : LogOptions) : Type 0 where
  Plain : o'.mode ≡ o.mode → none_of letter mode_letters ≡ true → Tells letter value o o'
  Alone : (m : LogMode) → o'.mode ≡ Some m → other_letter m ≡ None → Tells letter value o o'
  WithMap : (m : LogMode) (l : ℕ) → o'.mode ≡ Some m → other_letter m ≡ Some l → letter ≡ Some l
      → is_name value ≡ true → Tells letter value o o'

-- what options say of it: nothing, and none of them is one of a mode; or they name a mode, and its other map
pub data Named (words : List (List ℕ)) (items : List Item) (o o' : LogOptions) : Type 0 where
  Same : o'.mode ≡ o.mode → none_given items mode_letters ≡ true → Named words items o o'
  Set : (m : LogMode) → o'.mode ≡ Some m
      → ((l : ℕ) → other_letter m ≡ Some l → is_name (last_value option_meanings words l items) ≡ true)
      → Named words items o o'

both_off : (a b more : Bool) → not a ≡ true → not b ≡ true → more ≡ true → (not (a || b) && more) ≡ true
both_off true b more p q r = absurd (cc)
both_off false true more p q r = absurd (cc)
both_off false false more p q r = r

module _ (i : Item) (items : List Item) where
  one_more : (letters : List ℕ) → none_of (letter_meant (slice_get option_meanings i.row)) letters ≡ true
      → none_given items letters ≡ true → none_given (i ∷ items) letters ≡ true
  one_more [] p q = refl
  one_more (c ∷ cs) p q =
      let off = and_parts (not (is_of option_meanings c i))
      (none_of (letter_meant (slice_get option_meanings i.row)) cs) p in
      let none = and_parts (not (is_given option_meanings c items)) (none_given items cs) q in
      both_off (is_of option_meanings c i) (is_given option_meanings c items) (none_given (i ∷ items) cs) off.0 none.0
      (one_more cs off.1 none.1)

-- none is given at any place of the letters
none_at : (items : List Item) (letters : List ℕ) (k c : ℕ) → none_given items letters ≡ true
    → slice_get letters k ≡ Some c → is_given option_meanings c items ≡ false
none_at items [] k c h e = absurd (cc)
none_at items (d ∷ ds) zero c h e =
    let p = and_parts (not (is_given option_meanings d items)) (none_given items ds) h in
    let same : d ≡ c = cc in
    subst (λ x. is_given option_meanings x items ≡ false) same (not-true (is_given option_meanings d items) p.0)
none_at items (d ∷ ds) (suc k) c h e =
    let p = and_parts (not (is_given option_meanings d items)) (none_given items ds) h in
    none_at items ds k c p.1 e

-- nor counted
pub none_counted : (items : List Item) (letters : List ℕ) → none_given items letters ≡ true
    → count_by (λ c. is_given option_meanings c items) letters ≡ 0
none_counted items [] h = refl
none_counted items (c ∷ cs) h =
    let p = and_parts (not (is_given option_meanings c items)) (none_given items cs) h in
    rw (not-true (is_given option_meanings c items) p.0) (none_counted items cs p.1)

-- the letter that names another map is that of a mode
other_at : (m : LogMode) (l : ℕ) → other_letter m ≡ Some l → (k : ℕ) × (slice_get mode_letters k ≡ Some l)
other_at (Combine And) l e = (11, e)
other_at (Combine Or) l e = (12, e)
other_at (Combine Xor) l e = (10, e)
other_at (Compare true) l e = (8, e)
other_at (Compare false) l e = (7, e)
other_at _ l e = absurd (cc)

other_not_given : (items : List Item) (m : LogMode) (l : ℕ) → none_given items mode_letters ≡ true
    → other_letter m ≡ Some l → is_given option_meanings l items ≡ false
other_not_given items m l none e = let at = other_at m l e in none_at items mode_letters at.0 l none at.1

-- ---- what an option keeps

-- the limits of the values
pub record InRange (bytes from : ℕ) (to size : Option ℕ) : Type 0 where
  pub block : IsSector bytes
  pub input : from < 2 ^ 63
  pub output : IfSome to (λ n. n < 2 ^ 63)
  pub length : IfSome size (λ n. n < 2 ^ 63)

abbrev pub AreInRange : (block : ℕ) → LogOptions → Type 0
AreInRange block o = InRange block o.input_position o.output_position o.size

-- the block of the options, their limits, and whether they ask that nothing be said
abbrev pub log_kept : Kept LogOptions
log_kept = record { sector = λ o. o.block; InRange = AreInRange; quiet = λ o. o.quiet }

-- what an option of a letter keeps, and what it says
record KeepsMode (block : ℕ) (o : LogOptions) (letter : Option ℕ) (value : Option (List ℕ)) (o' : LogOptions)
    : Type 0 where
  keeps : Keeps log_kept block o (is_letter quiet_letter letter) o'
  tells : Tells letter value o o'

module _ (block : ℕ) (o : LogOptions) (h : AreInRange block o) where
  with_input : (n : ℕ) → n < 2 ^ 63 → AreInRange block (record o { input_position = n })
  with_input n p = record { block = h.block; input = p; output = h.output; length = h.length }

  with_output : (n : ℕ) → n < 2 ^ 63 → AreInRange block (record o { output_position = Some n })
  with_output n p = record { block = h.block; input = h.input; output = p; length = h.length }

  with_size : (n : ℕ) → n < 2 ^ 63 → AreInRange block (record o { size = Some n })
  with_size n p = record { block = h.block; input = h.input; output = h.output; length = p }

module _ (block : ℕ) (o o' : LogOptions) (c : ℕ) (value : Option (List ℕ)) where
  -- an option that sets this
  set_keeps : (n : LogOptions) → Keeps log_kept block o (is_letter quiet_letter (Some c)) n → Tells (Some c) value o n
      → Some n ≡ Some o' → KeepsMode block o (Some c) value o'
  set_keeps n k t e =
      subst (KeepsMode block o (Some c) value) (same_Some n o' e) (record { keeps = k; tells = t })

  -- one that is another letter's than that of `-q`
  other_keeps : (n : LogOptions) → n.block ≡ o.block → (AreInRange block o → AreInRange block n) → n.quiet ≡ o.quiet
      → is_letter quiet_letter (Some c) ≡ false → Tells (Some c) value o n → Some n ≡ Some o'
      → KeepsMode block o (Some c) value o'
  other_keeps n s r q l t e =
      set_keeps n
      (subst (λ b. Keeps log_kept block o b n) (sym l) (plain_keeps log_kept block o n n s r q refl)) t e

  -- one that says nothing of what is done
  plain_mode : (n : LogOptions) → n.block ≡ o.block → (AreInRange block o → AreInRange block n) → n.quiet ≡ o.quiet
      → is_letter quiet_letter (Some c) ≡ false → n.mode ≡ o.mode → none_of (Some c) mode_letters ≡ true
      → Some n ≡ Some o' → KeepsMode block o (Some c) value o'
  plain_mode n s r q l m t e = other_keeps n s r q l (Plain m t) e

  -- one that names a map, which must have a name
  name_mode : (b : Bool) → is_letter quiet_letter (Some c) ≡ false → none_of (Some c) mode_letters ≡ true
      → cond b (Some o) None ≡ Some o' → KeepsMode block o (Some c) value o'
  name_mode false l t e = absurd (cc)
  name_mode true l t e = plain_mode o refl (λ h. h) refl l refl t e

  -- one with a value that is a number
  value_mode : (f : ℕ → LogOptions) (m : Option ℕ) → ((n : ℕ) → (f n).block ≡ o.block)
      → ((n : ℕ) → m ≡ Some n → AreInRange block o → AreInRange block (f n)) → ((n : ℕ) → (f n).quiet ≡ o.quiet)
      → ((n : ℕ) → (f n).mode ≡ o.mode) → is_letter quiet_letter (Some c) ≡ false
      → none_of (Some c) mode_letters ≡ true → option_map f m ≡ Some o' → KeepsMode block o (Some c) value o'
  value_mode f m s r q d l t e =
      let p = map_part f m o' e in
      plain_mode (f p.0) (s p.0) (r p.0 p.1) (q p.0) l (d p.0) t (ap Some p.2)

  -- one that says what is done
  mode_keeps : (m : Option LogMode) → is_letter quiet_letter (Some c) ≡ false
      → ((x : LogMode) (n : LogOptions) → m ≡ Some x → n.mode ≡ Some x → Tells (Some c) value o n)
      → as_mode o m ≡ Some o' → KeepsMode block o (Some c) value o'
  mode_keeps m l t e =
      let p = map_part (λ x. record o { mode = Some x }) m o' e in
      let n : LogOptions = record o { mode = Some p.0 } in
      other_keeps n refl (λ h. h) refl l (t p.0 n p.1 refl) (ap Some p.2)

  alone_keeps : (m : Option LogMode) → is_letter quiet_letter (Some c) ≡ false
      → ((x : LogMode) → m ≡ Some x → other_letter x ≡ None) → as_mode o m ≡ Some o'
      → KeepsMode block o (Some c) value o'
  alone_keeps m l t e = mode_keeps m l (λ x n is p. Alone x p (t x is)) e

named_mode : (b : Bool) (m x : LogMode) → cond b (Some m) None ≡ Some x → (b ≡ true) × (m ≡ x)
named_mode true m x e = (refl, same_Some m x e)
named_mode false m x e = absurd (cc)

map_keeps : (block : ℕ) (o o' : LogOptions) (c : ℕ) (value : Option (List ℕ)) (m : LogMode)
    → is_letter quiet_letter (Some c) ≡ false → other_letter m ≡ Some c → as_mode o (with_map m value) ≡ Some o'
    → KeepsMode block o (Some c) value o'
map_keeps block o o' c value m l other e =
    mode_keeps block o o' c value (with_map m value) l
    (λ x n is p. let q = named_mode (is_name value) m x is in
    WithMap x c p (ap other_letter (sym q.1) ∙ other) refl q.0) e

-- modes that work on no other map
given_alone : (m x : LogMode) → other_letter m ≡ None → Some m ≡ Some x → other_letter x ≡ None
given_alone m x none e = ap other_letter (sym (same_Some m x e)) ∙ none

mapped_alone : {A : Type 0} (f : A → LogMode) → ((y : A) → other_letter (f y) ≡ None) → (v : Option A) (x : LogMode)
    → option_map f v ≡ Some x → other_letter x ≡ None
mapped_alone f none v x e = let p = map_part f v x e in ap other_letter (sym p.2) ∙ none p.0

created_alone : (a b : Option Status) (x : LogMode) → created_by a b ≡ Some x → other_letter x ≡ None
created_alone None b x e = absurd (cc)
created_alone (Some l) b x e = mapped_alone (λ r. Create l r) (λ r. refl) b x e

types_alone : (v : Option (List ℕ)) (x : LogMode) → two_types v ≡ Some x → other_letter x ≡ None
types_alone None x e = given_alone _ x refl e
types_alone (Some []) x e = absurd (cc)
types_alone (Some (c ∷ [])) x e = absurd (cc)
types_alone (Some (c ∷ d ∷ [])) x e = created_alone (status_of_symbol c) (status_of_symbol d) x e
types_alone (Some (c ∷ d ∷ e ∷ more)) x h = absurd (cc)

input_keeps : (s : ℕ) (o o' : LogOptions) (v : Option (List ℕ))
    → option_map (λ n. record o { input_position = n }) (size_by s v) ≡ Some o' → KeepsMode s o (Some 105) v o'
input_keeps s o o' v = value_mode s o o' 105 v (λ n. record o { input_position = n }) (size_by s v) (λ n. refl)
    (λ n p h. with_input s o h n (size_by_below s v n p)) (λ n. refl) (λ n. refl) refl refl

output_keeps : (s : ℕ) (o o' : LogOptions) (v : Option (List ℕ))
    → option_map (λ n. record o { output_position = Some n }) (size_by s v) ≡ Some o' → KeepsMode s o (Some 111) v o'
output_keeps s o o' v = value_mode s o o' 111 v (λ n. record o { output_position = Some n }) (size_by s v) (λ n. refl)
    (λ n p h. with_output s o h n (size_by_below s v n p)) (λ n. refl) (λ n. refl) refl refl

size_keeps : (s : ℕ) (o o' : LogOptions) (v : Option (List ℕ))
    → option_map (λ n. record o { size = Some n }) (size_by s v) ≡ Some o' → KeepsMode s o (Some 115) v o'
size_keeps s o o' v = value_mode s o o' 115 v (λ n. record o { size = Some n }) (size_by s v) (λ n. refl)
    (λ n p h. with_size s o h n (size_by_below s v n p)) (λ n. refl) (λ n. refl) refl refl

list_keeps : (s : ℕ) (o o' : LogOptions) (v : Option (List ℕ))
    → as_mode o (option_map ListBlocks (option_and_then types_of v)) ≡ Some o' → KeepsMode s o (Some 108) v o'
list_keeps s o o' v =
    alone_keeps s o o' 108 v _ refl (mapped_alone ListBlocks (λ y. refl) (option_and_then types_of v))

same_keeps : (s : ℕ) (o o' : LogOptions) (v : Option (List ℕ)) → Some o ≡ Some o' → KeepsMode s o (Some 118) v o'
same_keeps s o o' v = plain_mode s o o' 118 v o refl (λ h. h) refl refl refl refl

quiet_keeps : (s : ℕ) (o o' : LogOptions) (v : Option (List ℕ)) → Some (record o { quiet = true }) ≡ Some o'
    → KeepsMode s o (Some 113) v o'
quiet_keeps s o o' v =
    let n : LogOptions = record o { quiet = true } in
    set_keeps s o o' 113 v n (flag_keeps log_kept s o n true n refl (λ h. h) (or_true o.quiet) refl) (Plain refl refl)

rows_keep : EachRow (OfRow KeepsMode) option_rows
rows_keep =
    (λ s o o' v. alone_keeps s o o' 97 v _ refl (mapped_alone Change (λ y. refl) (option_and_then change_of v)))
    and (λ s o o' v. plain_mode s o o' 98 v _ refl (λ h. h) refl refl refl refl)
    and (λ s o o' v. alone_keeps s o o' 99 v _ refl (types_alone v))
    and (λ s o o' v. alone_keeps s o o' 67 v _ refl (mapped_alone Complete (λ y. refl) (one_type v)))
    and (λ s o o' v. alone_keeps s o o' 100 v _ refl (λ x. given_alone _ x refl))
    and (λ s o o' v. alone_keeps s o o' 68 v _ refl (λ x. given_alone _ x refl))
    and (λ s o o' v. plain_mode s o o' 102 v _ refl (λ h. h) refl refl refl refl)
    and (λ s o o' v. input_keeps s o o' v)
    and (λ s o o' v. list_keeps s o o' v)
    and (λ s o o' v. plain_mode s o o' 76 v _ refl (λ h. h) refl refl refl refl)
    and (λ s o o' v. name_mode s o o' 109 v (is_name v) refl refl)
    and (λ s o o' v. alone_keeps s o o' 110 v _ refl (λ x. given_alone _ x refl))
    and (λ s o o' v. output_keeps s o o' v)
    and (λ s o o' v. map_keeps s o o' 112 v (Compare false) refl refl)
    and (λ s o o' v. map_keeps s o o' 80 v (Compare true) refl refl)
    and (λ s o o' v. quiet_keeps s o o' v)
    and (λ s o o' v. size_keeps s o o' v)
    and (λ s o o' v. alone_keeps s o o' 116 v _ refl (λ x. given_alone _ x refl))
    and (λ s o o' v. same_keeps s o o' v)
    and (λ s o o' v. map_keeps s o o' 120 v (Combine Xor) refl refl)
    and (λ s o o' v. map_keeps s o o' 121 v (Combine And) refl refl)
    and (λ s o o' v. map_keeps s o o' 122 v (Combine Or) refl refl)
    and tt

-- ---- what all options keep

-- what options keep, one after the other, and what they say
record KeepAll (block : ℕ) (words : List (List ℕ)) (o : LogOptions) (items : List Item) (o' : LogOptions) : Type 0 where
  keeps : Keeps log_kept block o (is_given option_meanings quiet_letter items) o'
  named : Named words items o o'

-- a later name counts
name_stays : (words : List (List ℕ)) (x y : Option Item)
    → is_name (option_and_then (λ i. value_of words i.value) x) ≡ true
    → is_name (option_and_then (λ i. value_of words i.value) (later x y)) ≡ true
name_stays words None y e = absurd (cc)
name_stays words (Some i) y e = e

-- the name that an option gives counts if none of its letter comes after it
name_counts : (words : List (List ℕ)) (l : ℕ) (i : Item) (items : List Item) → is_of option_meanings l i ≡ true
    → is_given option_meanings l items ≡ false
    → last_value option_meanings words l (i ∷ items) ≡ value_of words i.value
name_counts words l i items of none =
    let value = λ (x : Option Item). option_and_then (λ i. value_of words i.value) x in
    ap (λ x. value (later x (cond (is_of option_meanings l i) (Some i) None)))
    (none_counts option_meanings l items none)
    ∙ ap (λ b. value (later None (cond b (Some i) None))) of

module _ (words : List (List ℕ)) (i : Item) (items : List Item) (o p o' : LogOptions) where
  -- after an option the others say nothing
  told_first : Tells (letter_meant (slice_get option_meanings i.row)) (value_of words i.value) o p → o'.mode ≡ p.mode
      → none_given items mode_letters ≡ true → Named words (i ∷ items) o o'
  told_first t e none = elim t [
    | Plain a b ↦ Same (e ∙ a) (one_more i items mode_letters b none)
    | Alone m a b ↦ Set m (e ∙ a) (λ l h. absurd (cc))
    | WithMap m l a b c d ↦
        Set m (e ∙ a) (λ k h. let same : l ≡ k = same_Some l k (sym b ∙ h) in
        let off = other_not_given items m k none h in
        let of : is_of option_meanings k i ≡ true =
        ap (is_letter k) c ∙ ap (λ x. nat_eq x k) same ∙ equal_letter k in
        ap is_name (name_counts words k i items of off) ∙ d)
  ]

  one_named : Tells (letter_meant (slice_get option_meanings i.row)) (value_of words i.value) o p
      → Named words items p o' → Named words (i ∷ items) o o'
  one_named t n = elim n [
    | Same e none ↦ told_first t e none
    | Set m e f ↦ Set m e (λ l h. name_stays words (last_of option_meanings l items) _ (f l h))
  ]

nothing_given : (letters : List ℕ) → none_given [] letters ≡ true
nothing_given [] = refl
nothing_given (c ∷ cs) = nothing_given cs

none_keeps : (block : ℕ) (words : List (List ℕ)) (o : LogOptions) → KeepAll block words o [] o
none_keeps block words o =
    record { keeps = none_keep log_kept block o; named = Same refl (nothing_given mode_letters) }

one_keeps : (block : ℕ) (words : List (List ℕ)) (o p o' : LogOptions) (i : Item) (items : List Item)
    → with_item option_rows block words o i ≡ Ok p → KeepAll block words p items o' → KeepAll block words o (i ∷ items) o'
one_keeps block words o p o' i items e rest =
    let k = item_holds KeepsMode option_rows rows_keep block words o p i e in
    record {
      keeps = both_keep log_kept block o p o' (is_of option_meanings quiet_letter i)
          (is_given option_meanings quiet_letter items) k.keeps rest.keeps;
      named = one_named words i items o p o' k.tells rest.named;
    }

none_begins : (n : ℕ) → IsSector n → Begins log_kept n (no_options n)
none_begins n h = record {
  same = refl;
  range = record { block = h; input = omega arith; output = tt; length = tt };
  quiet_is = refl;
}

-- options that are accepted are in range, say nothing where one of them asks for it, and name what is done
pub record AreKept (words : List (List ℕ)) (items : List Item) (o : LogOptions) : Type 0 where
  pub range : AreInRange o.block o
  pub quiet_is : o.quiet ≡ is_given option_meanings quiet_letter items
  pub named : (block : ℕ) × Named words items (no_options block) o

pub options_keep : (words : List (List ℕ)) (items : List Item) (o : LogOptions) → options_in words items ≡ Ok o
    → AreKept words items o
options_keep words items o e =
    let p = set_by_sector option_rows sector_letter no_options words items o e in
    let k = turn_holds (with_item option_rows p.0 words) (KeepAll p.0 words) (none_keeps p.0 words)
    (one_keeps p.0 words) items (no_options p.0) o p.2 in
    let kept = kept_from log_kept p.0 (no_options p.0) o (is_given option_meanings quiet_letter items)
    (none_begins p.0 p.1) k.keeps in
    record { range = kept.range; quiet_is = kept.quiet_is; named = (p.0, k.named) }
