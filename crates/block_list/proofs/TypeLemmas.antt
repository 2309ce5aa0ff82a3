-- What a text of types lists.
use Rattle.std.proofs.Common.{◌≡◌, ℕ, Bool, true, false, cond, List, [], ◌∷◌, length, Option, Some, None, is_some, nat_eq, refl, sym, ap, ◌∙◌, MatchOption, arith}
use Rattle.std.specs.List.{list_all}
use Rattle.std.proofs.lemmas.Bool.{eqb-true, ne_eqb}
use Rattle.std.proofs.lemmas.List.Elements.{All-weaker}
use Rattle.std.proofs.lemmas.List.Sums.{AllPass-from_list_all, list_all-from_AllPass}
use Rattle.block_list.specs.declared.status.Status.{Status}
use Rattle.block_list.specs.declared.status.Status.TheVariants.{NonTried, NonTrimmed, NonScraped, BadSector, Finished}
use Rattle.block_list.specs.declared.types.TypeSet.{TypeSet}
use Rattle.block_list.specs.Status.{symbol, status_of_symbol}
use Rattle.block_list.specs.Types.{is_types, has_symbol, has_type, AreTypes, TypesAreCharacters}

pub symbol_is_read : (s : Status) → status_of_symbol (symbol s) ≡ Some s
symbol_is_read NonTried = refl
symbol_is_read _ = refl

abbrev IsSymbol : ℕ → Type 0
IsSymbol c = (s : Status) × (c ≡ symbol s)

abbrev reads : ℕ → Bool
reads c = is_some (status_of_symbol c)

-- one more character to compare with
read_by : (c n : ℕ) (s : Status) (other : Option Status) → symbol s ≡ n → (is_some other ≡ true → IsSymbol c)
    → is_some (cond (nat_eq c n) (Some s) other) ≡ true → IsSymbol c
read_by c n s other e rest =
    let k : (v : Bool) → nat_eq c n ≡ v → is_some (cond v (Some s) other) ≡ true → IsSymbol c =
    λ v. elim v as (λ v. nat_eq c n ≡ v → is_some (cond v (Some s) other) ≡ true → IsSymbol c) [
      | true ↦ λ same h. (s, eqb-true c n same ∙ sym e)
      | false ↦ λ apart h. rest h
    ] in
    k (nat_eq c n) refl

symbol_from_read : (c : ℕ) → reads c ≡ true → IsSymbol c
symbol_from_read c =
    read_by c 63 NonTried _ refl (read_by c 42 NonTrimmed _ refl (read_by c 47 NonScraped _ refl
    (read_by c 45 BadSector _ refl (read_by c 43 Finished None refl (λ h. cc)))))

read_from_symbol : (c : ℕ) → IsSymbol c → reads c ≡ true
read_from_symbol c (s, e) = ap reads e ∙ ap is_some (symbol_is_read s)

is_some_text : (c : ℕ) (cs : List ℕ) → is_types (c ∷ cs) ≡ list_all reads (c ∷ cs)
is_some_text c cs =
    let e : nat_eq (length (c ∷ cs)) 0 ≡ false = ne_eqb (length (c ∷ cs)) 0 (λ z. omega arith) in
    rw e refl

types_from_test : (text : List ℕ) → is_types text ≡ true → AreTypes text
types_from_test [] h = cc
types_from_test (c ∷ cs) h = record {
  some = λ e. cc;
  each = All-weaker (λ c. reads c ≡ true) IsSymbol symbol_from_read (c ∷ cs) (AllPass-from_list_all reads (c ∷ cs) (sym (is_some_text c cs) ∙ h));
}

test_from_types : (text : List ℕ) → AreTypes text → is_types text ≡ true
test_from_types [] t = absurd (t.some refl)
test_from_types (c ∷ cs) t =
    is_some_text c cs ∙ list_all-from_AllPass reads (c ∷ cs) (All-weaker IsSymbol (λ c. reads c ≡ true) read_from_symbol (c ∷ cs) t.each)

abbrev set_of : List ℕ → TypeSet
set_of text = record {
  non_tried = has_symbol text NonTried;
  non_trimmed = has_symbol text NonTrimmed;
  non_scraped = has_symbol text NonScraped;
  bad_sector = has_symbol text BadSector;
  finished = has_symbol text Finished;
}

has_listed : (text : List ℕ) (s : Status) → has_type (set_of text) s ≡ has_symbol text s
has_listed text NonTried = refl
has_listed text _ = refl

pub types_are_characters : TypesAreCharacters
types_are_characters text =
    let P : Bool → Type 0 = λ v. MatchOption (cond v (Some (set_of text)) None) (AreTypes text → ⊥)
    (λ t. AreTypes text × ((s : Status) → has_type t s ≡ has_symbol text s)) in
    let k : (v : Bool) → is_types text ≡ v → P v = λ v. elim v as (λ v. is_types text ≡ v → P v) [
      | true ↦ λ yes. (types_from_test text yes, has_listed text)
      | false ↦ λ no types. let yes = test_from_types text types in cc
    ] in
    k (is_types text) refl
