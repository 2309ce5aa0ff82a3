-- What a reader takes of letters, one letter further.
use Rattle.std.proofs.lemmas.Bool.{eqb-true}
use Rattle.std.proofs.lemmas.Str.{chars_past_char, chars-nil, encodes-chars, length-encode}
use Rattle.std.proofs.lemmas.List.{append-nil, length-append, nil_from_length}
use Rattle.std.proofs.Common.{◌≡◌, true, false, nat_eq, OnOk, IfErr, inl, inr, ℕ, ◌+◌, ◌-◌, ◌<◌, ◌≤◌, length, List, [], ◌∷◌, ◌++◌, Option, Some, None, arith, refl, sym, subst, zero, suc, Result, Ok, Err, IsOkAnd, ◌∙◌, ap, append_assoc}
use Rattle.std.specs.Char.{encode_utf8, len_utf8}
use Rattle.std.specs.Str.{IsUtf8, chars, encode_utf8_all}
use Rattle.std.specs.Str.Iter.{chars_rest, chars_steps}
use Rattle.std.specs.declared.str.Chars.{Chars}
use Rattle.option_words.specs.declared.row.Row.{Row}
use Rattle.option_words.specs.declared.row.Takes.{Takes}
use Rattle.option_words.specs.declared.row.Takes.TheVariants.{Never, Always, Optional}
use Rattle.option_words.specs.declared.choice.Chosen.{Chosen}
use Rattle.option_words.specs.declared.reading.Spot.{Spot}
use Rattle.option_words.specs.declared.reading.Item.{Item}
use Rattle.option_words.specs.declared.choice.Choice.{Choice}
use Rattle.option_words.specs.declared.reader.NextWord.TheVariants.{Anything}
use Rattle.option_words.specs.declared.reader.Reader.{Reader}
use Rattle.option_words.specs.declared.fault.WordFault.{WordFault}
use Rattle.option_words.specs.declared.fault.WordFault.TheVariants.{UnknownShort}
use Rattle.option_words.specs.Meanings.{Brought, nothing, one_item, with_flag, rest_value, option_meaning, letter_by, letter_meaning, letters_meaning, equals_sign, name_before, value_after, choice_meaning, name_meaning}
use Rattle.option_words.specs.Rows.{is_alone, has_letter, first_row, chosen_by_name}
use Rattle.option_words.specs.Taken.{Took, IsFaultOf}

-- whatever takes the rest from the reader now takes the whole from the one at the start, and each fault of the rest is
-- one of the whole
pub record Leads (whole : Result Brought WordFault) (start now : Reader) (rest : Result Brought WordFault) : Type 0 where
  pub took : (new : Reader) → IsOkAnd rest (λ b. Took now new b) → IsOkAnd whole (λ b. Took start new b)
  pub fault : (e : WordFault) → IsFaultOf rest e → IsFaultOf whole e

flag_took : (row n : ℕ) (now next new : Reader) (rest : Result Brought WordFault) → Took now next (one_item row n None)
    → IsOkAnd rest (λ b. Took next new b) → IsOkAnd (with_flag row n rest) (λ b. Took now new b)
flag_took row n now next new (Ok b) flag h =
    let items : new.items.items ≡ now.items.items ++ ((record { row = row; word = n; value = None }) ∷ []) ++ b.items
    = h.items ∙ ap (λ (v : List Item). v ++ b.items) flag.items in
    let operands : new.operands.items ≡ now.operands.items ++ [] ++ b.operands
    = h.operands ∙ ap (λ (v : List ℕ). v ++ b.operands) flag.operands in
    record {
      items = items ∙ append_assoc _ _ b.items;
      operands = operands ∙ append_assoc _ [] b.operands;
      next = h.next;
    }
flag_took row n now next new (Err e) flag h = absurd h

flag_fault : (row n : ℕ) (rest : Result Brought WordFault) (e : WordFault) → IsFaultOf rest e → IsFaultOf (with_flag row n rest) e
flag_fault row n rest e h = elim h [ inl memory ↦ inl memory | inr fault ↦ inr (ap (with_flag row n) fault) ]

-- after an option that takes no value
pub leads_flag : (whole : Result Brought WordFault) (start now next : Reader) (row n : ℕ) (rest : Result Brought WordFault)
    → Leads whole start now (with_flag row n rest) → Took now next (one_item row n None) → Leads whole start next rest
leads_flag whole start now next row n rest leads flag = record {
  took = λ new h. leads.took new (flag_took row n now next new rest flag h);
  fault = λ e h. leads.fault e (flag_fault row n rest e h);
}

-- an option that takes a value ends its word
pub letter_ends : (takes : Takes) (row n at : ℕ) (cs : List ℕ) (further : Result Brought WordFault) → is_alone takes ≡ false
    → letter_by takes row n at cs further ≡ option_meaning takes row n (rest_value n at cs)
letter_ends Never row n at cs further other = cc
letter_ends Always row n at cs further other = refl
letter_ends Optional row n at cs further other = refl

-- an option that takes none is followed by further letters
pub letter_goes_on : (takes : Takes) (row n at : ℕ) (cs : List ℕ) (further : Result Brought WordFault) → is_alone takes ≡ true
    → letter_by takes row n at cs further ≡ with_flag row n further
letter_goes_on Never row n at cs further alone = refl
letter_goes_on Always row n at cs further alone = cc
letter_goes_on Optional row n at cs further alone = cc

spelled_after : (n at : ℕ) (cs bs : List ℕ) → encode_utf8_all cs ≡ bs → 0 < length bs
    → rest_value n at cs ≡ Some (record { word = n; from = at })
spelled_after n at [] bs e some = let none : 0 ≡ length bs = ap (λ (v : List ℕ). length v) e in absurd (omega arith)
spelled_after n at (c ∷ cs) bs e some = refl

-- the value after a letter, if bytes are left
pub rest_after : (n at : ℕ) (bs : List ℕ) → IsUtf8 bs → 0 < length bs → rest_value n at (chars bs) ≡ Some (record { word = n; from = at })
rest_after n at bs utf8 some = spelled_after n at (chars bs) bs (encodes-chars bs utf8) some

place_after : (all rest rest' width : ℕ) → rest ≡ width + rest' → rest ≤ all → all - rest + width ≡ all - rest'
place_after all rest rest' width e within = omega arith

-- the letters of a word that are left begin with this one
pub letter_step : (rows : List Row) (n all c : ℕ) (bs rest : List ℕ) → IsUtf8 bs → bs ≡ encode_utf8 c ++ rest → length bs ≤ all
    → letters_meaning rows n (all - length bs) (chars bs)
    ≡ letter_meaning (first_row (has_letter c) 0 rows) n c (all - length rest) (chars rest) (letters_meaning rows n (all - length rest) (chars rest))
letter_step rows n all c bs rest utf8 e within =
    let len : length bs ≡ len_utf8 c + length rest
    = ap length e ∙ length-append (encode_utf8 c) rest ∙ ap (λ k. k + length rest) (length-encode c) in
    ap (λ cs. letters_meaning rows n (all - length bs) cs) (chars_past_char bs rest c utf8 e)
    ∙ ap (λ at. letter_meaning (first_row (has_letter c) 0 rows) n c at (chars rest) (letters_meaning rows n at (chars rest)))
    (place_after all (length bs) (length rest) (len_utf8 c) len within)

-- the bytes of a text that begins with a character
pub length_past : (bs rest : List ℕ) (c : ℕ) → bs ≡ encode_utf8 c ++ rest → length bs ≡ len_utf8 c + length rest
length_past bs rest c e = ap length e ∙ length-append (encode_utf8 c) rest ∙ ap (λ k. k + length rest) (length-encode c)

-- no value comes after a letter if no bytes are left
pub none_after : (n at : ℕ) (bs : List ℕ) → nat_eq (length bs) 0 ≡ true → None ≡ rest_value n at (chars bs)
none_after n at bs none = sym (ap (rest_value n at) (ap chars (nil_from_length bs (eqb-true (length bs) 0 none)) ∙ chars-nil))

pub positive : (n : ℕ) → nat_eq n 0 ≡ false → 0 < n
positive zero e = cc
positive (suc n) e = omega arith

took_nothing : (now : Reader) → now.next ≡ Anything → Took now now (nothing Anything)
took_nothing now e = record { items = sym (append-nil _); operands = sym (append-nil _); next = e }

-- all letters are taken
pub leads_end : (whole : Result Brought WordFault) (start now : Reader) (rows : List Row) (n at : ℕ) (bs : List ℕ)
    → Leads whole start now (letters_meaning rows n at (chars bs)) → length bs ≡ 0 → now.next ≡ Anything
    → IsOkAnd whole (λ b. Took start now b)
leads_end whole start now rows n at bs leads none e =
    let Rest : List ℕ → Type 0 = λ cs. IsOkAnd (letters_meaning rows n at cs) (λ b. Took now now b) in
    let empty : chars bs ≡ [] = ap chars (nil_from_length bs none) ∙ chars-nil in
    leads.took now (subst Rest (sym empty) (took_nothing now e))

-- what a call answers when it returned Ok, through an equation
pub ok_along : {T : Type 0} (result : Result T WordFault) (start now new : Reader) (whole rest meant : Result Brought WordFault)
    → Leads whole start now rest → rest ≡ meant → OnOk result (IsOkAnd meant (λ b. Took now new b))
    → OnOk result (IsOkAnd whole (λ b. Took start new b))
ok_along (Ok x) start now new whole rest meant leads e h =
    let Meant : Result Brought WordFault → Type 0 = λ r. IsOkAnd r (λ b. Took now new b) in
    leads.took new (subst Meant (sym e) h)
ok_along (Err f) start now new whole rest meant leads e h = tt

-- the meaning of a long name, by its name, its value and the row that it chooses
pub name_is : (rows : List Row) (n : ℕ) (text name : List ℕ) (value : Option Spot) (choice : Choice)
    → name ≡ name_before (equals_sign text) text → value ≡ value_after n (equals_sign text) → choice ≡ chosen_by_name rows name
    → choice_meaning choice n value ≡ name_meaning rows n text
name_is rows n text name value choice named valued chosen =
    ap (λ v. choice_meaning choice n v) valued
    ∙ ap (λ c. choice_meaning c n (value_after n (equals_sign text))) (chosen ∙ ap (chosen_by_name rows) named)

-- what a call answers, where its meaning is another's
pub ok_means : {T : Type 0} (result : Result T WordFault) (old new : Reader) (meant meant' : Result Brought WordFault) → meant ≡ meant'
    → OnOk result (IsOkAnd meant (λ b. Took old new b)) → OnOk result (IsOkAnd meant' (λ b. Took old new b))
ok_means result old new meant meant' e h =
    let Means : Result Brought WordFault → Type 0 = λ r. OnOk result (IsOkAnd r (λ b. Took old new b)) in subst Means e h

pub err_means : {T : Type 0} (result : Result T WordFault) (meant meant' : Result Brought WordFault) → meant ≡ meant'
    → IfErr result (λ f. IsFaultOf meant f) → IfErr result (λ f. IsFaultOf meant' f)
err_means result meant meant' e h =
    let Means : Result Brought WordFault → Type 0 = λ r. IfErr result (λ f. IsFaultOf r f) in subst Means e h

-- the letters that are left, where no row has the first
pub letter_unknown : (rows : List Row) (n all c : ℕ) (bs rest : List ℕ) → IsUtf8 bs → bs ≡ encode_utf8 c ++ rest → length bs ≤ all
    → first_row (has_letter c) 0 rows ≡ None → letters_meaning rows n (all - length bs) (chars bs) ≡ Err (UnknownShort n c)
letter_unknown rows n all c bs rest utf8 e within none =
    letter_step rows n all c bs rest utf8 e within
    ∙ ap (λ f. letter_meaning f n c (all - length rest) (chars rest) (letters_meaning rows n (all - length rest) (chars rest))) none

-- the letters that are left, where a row has the first
pub letter_found : (rows : List Row) (n all c : ℕ) (bs rest : List ℕ) (chosen : Chosen) → IsUtf8 bs → bs ≡ encode_utf8 c ++ rest
    → length bs ≤ all → first_row (has_letter c) 0 rows ≡ Some chosen → letters_meaning rows n (all - length bs) (chars bs)
    ≡ letter_by chosen.takes chosen.row n (all - length rest) (chars rest) (letters_meaning rows n (all - length rest) (chars rest))
letter_found rows n all c bs rest chosen utf8 e within found =
    letter_step rows n all c bs rest utf8 e within
    ∙ ap (λ f. letter_meaning f n c (all - length rest) (chars rest) (letters_meaning rows n (all - length rest) (chars rest))) found

pub leads_along : (whole : Result Brought WordFault) (start now : Reader) (rest rest' : Result Brought WordFault)
    → Leads whole start now rest → rest ≡ rest' → Leads whole start now rest'
leads_along whole start now rest rest' leads e =
    let To : Result Brought WordFault → Type 0 = λ r. Leads whole start now r in subst To e leads

-- no character is left of a text
pub chars_end : (s : Chars) (r : Option ℕ) (t : Chars) → r ≡ None → chars_steps s r t → length (chars_rest s) ≡ 0
chars_end s None t e steps = steps.0.0
chars_end s (Some c) t e steps = cc
