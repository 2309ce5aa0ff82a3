-- What options set, one after the other.
use Rattle.std.proofs.Common.{◌≡◌, ℕ, ◌+◌, ◌<◌, Bool, true, false, cond, List, [], ◌∷◌, length, drop, get_or, Option, Some, Result, Ok, Err, refl, ◌∙◌, ap, subst, arith}
use Rattle.std.proofs.lemmas.List.{drop_more}
use Rattle.std.specs.Option.{ok_or, option_and_then}
use Rattle.std.specs.Result.{result_ok}
use Rattle.size_suffixes.specs.Sectors.{IsSector, largest_sector}
use Rattle.size_suffixes.specs.Size.{size}
use Rattle.option_words.specs.declared.reading.Item.{Item}
use Rattle.option_words.proofs.ValueLemmas.{in_range, or_part, then_part}
use Rattle.option_words.specs.Values.{Meaning, default_sector, is_of, sector_of, set_in_turn, value_of, with_sector, word_at}

module _ {O : Type 0} (f : O → Item → Result O ℕ) where
  -- one option more
  pub set_step : (o o' : O) (items : List Item) (i : ℕ) (d : Item) → i < length items → f o (get_or items i d) ≡ Ok o'
      → set_in_turn f (Ok o) (drop i items) ≡ set_in_turn f (Ok o') (drop (i + 1) items)
  set_step o o' items i d within e =
      ap (set_in_turn f (Ok o)) (drop_more items i d within) ∙ ap (λ r. set_in_turn f r (drop (i + 1) items)) e

  pub fault_stays : (n : ℕ) (items : List Item) → set_in_turn f (Err n) items ≡ Err n
  fault_stays n [] = refl
  fault_stays n (i ∷ is) = refl

  -- options that are set one after the other are set at each step
  pub turn_parts : (r : Result O ℕ) (items : List Item) (o' : O) → set_in_turn f r items ≡ Ok o'
      → (o : O) × (r ≡ Ok o) × (set_in_turn f (Ok o) items ≡ Ok o')
  turn_parts (Ok o) items o' e = (o, refl, e)
  turn_parts (Err n) items o' e = let h = fault_stays n items in absurd (cc)

sector_of_is : (text : List ℕ) (n : ℕ) → sector_of text ≡ Some n → IsSector n
sector_of_is text n e =
    let p = in_range 1 largest_sector (result_ok (size default_sector text)) n e in
    record { low = omega (arith, p.0); high = p.1 }

sector_by : (b : Bool) (value : Option (List ℕ)) (word sector n : ℕ) → IsSector sector
    → cond b (ok_or (option_and_then sector_of value) word) (Ok sector) ≡ Ok n → IsSector n
sector_by false value word sector n h e = let same : sector ≡ n = cc in subst IsSector same h
sector_by true value word sector n h e =
    let p = then_part sector_of value n (or_part (option_and_then sector_of value) word n e) in
    sector_of_is p.0 n p.2

-- a sector that options give is accepted
pub sector_step : (options : List Meaning) (letter : ℕ) (words : List (List ℕ)) (sector n : ℕ) (i : Item)
    → IsSector sector → with_sector options letter words sector i ≡ Ok n → IsSector n
sector_step options letter words sector n i h e =
    sector_by (is_of options letter i) (value_of words i.value) (word_at i.value) sector n h e

pub sector_in_turn : (options : List Meaning) (letter : ℕ) (words : List (List ℕ)) (items : List Item) (sector n : ℕ)
    → IsSector sector → set_in_turn (with_sector options letter words) (Ok sector) items ≡ Ok n → IsSector n
sector_in_turn options letter words [] sector n h e = let same : sector ≡ n = cc in subst IsSector same h
sector_in_turn options letter words (i ∷ is) sector n h e =
    let p = turn_parts (with_sector options letter words) (with_sector options letter words sector i) is n e in
    sector_in_turn options letter words is p.0 n (sector_step options letter words sector p.0 i h p.1) p.2

-- so is the sector's size that is taken where none is given
pub default_is : IsSector default_sector
default_is = record { low = omega arith; high = omega arith }
