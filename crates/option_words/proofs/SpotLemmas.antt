-- Each value that a word brings stands in that word, where a character begins or the word ends.
use Rattle.std.proofs.Common.{◌≡◌, ℕ, ◌+◌, ◌-◌, ◌<◌, ◌≤◌, if◌then◌else◌, Bool, true, false, ◌&&◌, List, [], ◌∷◌, ◌++◌, length, drop, get_or, Option, Some, None, Result, Ok, Err, IfOk, IfSome, nat_eq, refl, sym, ◌∙◌, ap, subst, arith, All}
use Rattle.std.proofs.lemmas.Bool.{eqb-true}
use Rattle.std.proofs.lemmas.List.{get_or-drop, length-drop, length-append}
use Rattle.std.proofs.lemmas.List.Elements.{All-from_recursion}
use Rattle.std.proofs.lemmas.List.Quantifiers.{position-Some}
use Rattle.std.proofs.lemmas.Str.{IsCharBoundary-from_drop, IsCharBoundary-after_ascii, IsCharBoundary-start, IsUtf8-drop, drop_past_char, encodes-chars, scalars-chars, length-encode}
use Rattle.std.specs.List.{AllByRecursion}
use Rattle.std.specs.Char.{len_utf8, encode_utf8}
use Rattle.std.specs.Str.{IsUtf8, IsCharBoundary, chars, encode_utf8_all, all_scalars}
use Rattle.option_words.specs.declared.row.Row.{Row}
use Rattle.option_words.specs.declared.row.Takes.{Takes}
use Rattle.option_words.specs.declared.row.Takes.TheVariants.{Never, Always, Optional}
use Rattle.option_words.specs.declared.choice.Chosen.{Chosen}
use Rattle.option_words.specs.declared.choice.Choice.{Choice}
use Rattle.option_words.specs.declared.choice.Choice.TheVariants.{One, Unknown, Several}
use Rattle.option_words.specs.declared.form.Form.{Form}
use Rattle.option_words.specs.declared.form.Form.TheVariants.{Plain, Stop, Name, Letters}
use Rattle.option_words.specs.declared.reading.Item.{Item}
use Rattle.option_words.specs.declared.reading.Spot.{Spot}
use Rattle.option_words.specs.declared.reader.NextWord.{NextWord}
use Rattle.option_words.specs.declared.reader.NextWord.TheVariants.{Anything, Value, Operand}
use Rattle.option_words.specs.declared.fault.WordFault.{WordFault}
use Rattle.option_words.specs.Forms.{form_of}
use Rattle.option_words.specs.Meanings.{Brought, option_meaning, with_flag, rest_value, letter_by, letter_meaning, letters_meaning, equals_sign, value_after, choice_meaning, form_meaning, meaning}
use Rattle.option_words.specs.Rows.{has_letter, first_row}
use Rattle.option_words.specs.Spots.{IsSpot, HasSpot}
use Rattle.option_words.specs.Words.{word}

-- a spot of the word w, which has the number n
record IsOwn (n : ℕ) (w : List ℕ) (spot : Spot) : Type 0 where
  word_is : spot.word ≡ n
  boundary : IsCharBoundary w spot.from

abbrev HasOwn : ℕ → List ℕ → Item → Type 0
HasOwn n w item = IfSome item.value (IsOwn n w)

-- what a word brings has spots of its own alone
abbrev AreOwn : ℕ → List ℕ → Result Brought WordFault → Type 0
AreOwn n w r = IfOk r (λ b. AllByRecursion (HasOwn n w) b.items)

option_own : (takes : Takes) (row n : ℕ) (value : Option Spot) (w : List ℕ) → IfSome value (IsOwn n w)
    → AreOwn n w (option_meaning takes row n value)
option_own Never row n None w own = (tt, tt)
option_own Never row n (Some spot) w own = tt
option_own Always row n None w own = tt
option_own Always row n (Some spot) w own = (own, tt)
option_own Optional row n value w own = (own, tt)

flag_own : (row n : ℕ) (w : List ℕ) (r : Result Brought WordFault) → AreOwn n w r → AreOwn n w (with_flag row n r)
flag_own row n w (Ok b) own = (tt, own)
flag_own row n w (Err fault) own = tt

rest_own : (n at : ℕ) (cs w : List ℕ) → IsCharBoundary w at → IfSome (rest_value n at cs) (IsOwn n w)
rest_own n at [] w boundary = tt
rest_own n at (c ∷ cs) w boundary = record { word_is = refl; boundary = boundary }

letter_by_own : (takes : Takes) (row n at : ℕ) (cs w : List ℕ) (further : Result Brought WordFault) → IsCharBoundary w at
    → AreOwn n w further → AreOwn n w (letter_by takes row n at cs further)
letter_by_own Never row n at cs w further boundary own = flag_own row n w further own
letter_by_own Always row n at cs w further boundary own = option_own Always row n (rest_value n at cs) w (rest_own n at cs w boundary)
letter_by_own Optional row n at cs w further boundary own = option_own Optional row n (rest_value n at cs) w (rest_own n at cs w boundary)

letter_own : (found : Option Chosen) (n c at : ℕ) (cs w : List ℕ) (further : Result Brought WordFault) → IsCharBoundary w at
    → AreOwn n w further → AreOwn n w (letter_meaning found n c at cs further)
letter_own None n c at cs w further boundary own = tt
letter_own (Some chosen) n c at cs w further boundary own = letter_by_own chosen.takes chosen.row n at cs w further boundary own

both_true : (a b : Bool) → (a && b) ≡ true → b ≡ true
both_true true b e = e
both_true false b e = cc

past_by : (all left rest at width : ℕ) → at ≤ all → left ≡ all - at → left ≡ width + rest → at + width ≤ all
past_by all left rest at width within e d = omega arith

past : (w rest : List ℕ) (at c : ℕ) → at ≤ length w → drop at w ≡ encode_utf8 c ++ rest → at + len_utf8 c ≤ length w
past w rest at c within e = past_by (length w) (length (drop at w)) (length rest) at (len_utf8 c) within (length-drop at w)
    (ap length e ∙ length-append (encode_utf8 c) rest ∙ ap (λ n. n + length rest) (length-encode c))

letters_own : (rows : List Row) (n at : ℕ) (cs w : List ℕ) → all_scalars cs ≡ true → drop at w ≡ encode_utf8_all cs → at ≤ length w
    → AreOwn n w (letters_meaning rows n at cs)
letters_own rows n at [] w scalar spells within = tt
letters_own rows n at (c ∷ cs) w scalar spells within =
    let rest : drop (at + len_utf8 c) w ≡ encode_utf8_all cs = drop_past_char w (encode_utf8_all cs) at c spells in
    let scalars : all_scalars cs ≡ true = both_true _ _ scalar in
    let fits : at + len_utf8 c ≤ length w = past w (encode_utf8_all cs) at c within spells in
    let utf8 : IsUtf8 (drop (at + len_utf8 c) w) = (cs, (scalars, sym rest)) in
    letter_own (first_row (has_letter c) 0 rows) n c (at + len_utf8 c) cs w (letters_meaning rows n (at + len_utf8 c) cs)
    (IsCharBoundary-from_drop w (at + len_utf8 c) fits utf8)
    (letters_own rows n (at + len_utf8 c) cs w scalars rest fits)

if_letters : (b : Bool) (form : Form) → (if b then form else Plain) ≡ Letters → b ≡ true
if_letters true form e = refl
if_letters false form e = cc

-- a word of letters begins with a hyphen and is longer
pub letters_front : (w : List ℕ) → form_of w ≡ Letters → (1 < length w) × (get_or w 0 0 ≡ 45)
letters_front [] e = cc
letters_front (c ∷ []) e = cc
letters_front (c ∷ d ∷ rest) e = (omega arith, eqb-true c 45 (if_letters (nat_eq c 45) _ e))

-- after the hyphen of letters a character begins
pub letters_boundary : (w : List ℕ) → IsUtf8 w → form_of w ≡ Letters → IsCharBoundary w 1
letters_boundary w utf8 e =
    let front = letters_front w e in
    IsCharBoundary-after_ascii w 0 utf8 (omega arith) (omega (arith, front.1))

group_own : (rows : List Row) (n : ℕ) (w : List ℕ) → IsUtf8 w → form_of w ≡ Letters → AreOwn n w (letters_meaning rows n 1 (chars (drop 1 w)))
group_own rows n w utf8 e =
    let rest : IsUtf8 (drop 1 w) = IsUtf8-drop w 1 utf8 (letters_boundary w utf8 e) in
    let front = letters_front w e in
    letters_own rows n 1 (chars (drop 1 w)) w (scalars-chars (drop 1 w) rest) (sym (encodes-chars (drop 1 w) rest)) (omega (arith, front.0))

within_by : (k all left : ℕ) → k < left → left ≡ all - 2 → 2 + k < all
within_by k all left h e = omega arith

after_sign : (k : ℕ) → 2 + k + 1 ≡ k + 3
after_sign k = omega arith

after_own : (n : ℕ) (w : List ℕ) (sign : Option ℕ) → IsUtf8 w → equals_sign (drop 2 w) ≡ sign → IfSome (value_after n sign) (IsOwn n w)
after_own n w None utf8 e = tt
after_own n w (Some k) utf8 e =
    let found = position-Some (λ b. nat_eq b 61) (drop 2 w) k 0 e in
    let sign : get_or w (2 + k) 0 ≡ 61 = sym (get_or-drop 2 w k 0) ∙ eqb-true (get_or (drop 2 w) k 0) 61 found.1 in
    let within : 2 + k < length w = within_by k (length w) (length (drop 2 w)) found.0 (length-drop 2 w) in
    let At : ℕ → Type 0 = λ m. IsCharBoundary w m in
    record { word_is = refl; boundary = subst At (after_sign k) (IsCharBoundary-after_ascii w (2 + k) utf8 within (omega (arith, sign))) }

choice_own : (choice : Choice) (n : ℕ) (value : Option Spot) (w : List ℕ) → IfSome value (IsOwn n w)
    → AreOwn n w (choice_meaning choice n value)
choice_own (One chosen) n value w own = option_own chosen.takes chosen.row n value w own
choice_own Unknown n value w own = tt
choice_own Several n value w own = tt

form_own : (form : Form) (rows : List Row) (n : ℕ) (w : List ℕ) → IsUtf8 w → form_of w ≡ form → AreOwn n w (form_meaning form rows n w)
form_own Plain rows n w utf8 e = tt
form_own Stop rows n w utf8 e = tt
form_own Name rows n w utf8 e = choice_own _ n _ w (after_own n w (equals_sign (drop 2 w)) utf8 refl)
form_own Letters rows n w utf8 e = group_own rows n w utf8 e

meaning_own : (rows : List Row) (next : NextWord) (n : ℕ) (w : List ℕ) → IsUtf8 w → AreOwn n w (meaning rows next n w)
meaning_own rows Anything n w utf8 = form_own (form_of w) rows n w utf8 refl
meaning_own rows (Value wanted) n w utf8 = (record { word_is = refl; boundary = IsCharBoundary-start w utf8 }, tt)
meaning_own rows Operand n w utf8 = tt

spot_of_own : (words : List (List ℕ)) (n : ℕ) (w : List ℕ) (item : Item) → 1 ≤ n → n ≤ length words → w ≡ word words n
    → (value : Option Spot) → IfSome value (IsOwn n w) → IfSome value (IsSpot words)
spot_of_own words n w item low high is None own = tt
spot_of_own words n w item low high is (Some spot) own =
    let named : w ≡ word words spot.word = is ∙ ap (word words) (sym own.word_is) in
    let AtBoundary : List ℕ → Type 0 = λ v. IsCharBoundary v spot.from in
    let word_is = own.word_is in
    record { counted = omega arith; within = omega arith; boundary = subst AtBoundary named own.boundary }

all_spots : (words : List (List ℕ)) (n : ℕ) (w : List ℕ) (items : List Item) → 1 ≤ n → n ≤ length words → w ≡ word words n
    → AllByRecursion (HasOwn n w) items → AllByRecursion (HasSpot words) items
all_spots words n w [] low high is own = tt
all_spots words n w (item ∷ items) low high is own =
    (spot_of_own words n w item low high is item.value own.0, all_spots words n w items low high is own.1)

-- the values that a word brings stand in the words
pub meaning_spots : (rows : List Row) (words : List (List ℕ)) (next : NextWord) (n : ℕ) (w : List ℕ) (b : Brought) → 1 ≤ n → n ≤ length words
    → w ≡ word words n → IsUtf8 w → meaning rows next n w ≡ Ok b → All (HasSpot words) b.items
meaning_spots rows words next n w b low high is utf8 e =
    let Own : Result Brought WordFault → Type 0 = λ r. AreOwn n w r in
    All-from_recursion (HasSpot words) b.items (all_spots words n w b.items low high is (subst Own e (meaning_own rows next n w utf8)))
