-- What the words `infile outfile mapfile` ask for.
use Rattle.std.proofs.Common.{◌≡◌, ℕ, nat_eq, false, List, [], ◌∷◌, length, map, Option, Some, None, Ok, refl, sym, ap, subst, arith}
use Rattle.std.proofs.lemmas.Bool.{ne_eqb}
use Rattle.option_words.specs.declared.row.Row.{Row}
use Rattle.option_words.specs.declared.row.Wants.TheVariants.{Nothing}
use Rattle.option_words.specs.Meanings.{Brought, meaning, one_item, one_operand}
use Rattle.option_words.specs.Reading.{Bring}
use Rattle.option_words.specs.Rows.{meaning_of_row}
use Rattle.option_words.specs.Values.{Meaning, is_empty_text, empty_operand}
use Rattle.option_words.specs.Grammar.{unless_empty}
use Rattle.ddrescue_words.specs.Options.{option_meanings, no_options}
use Rattle.ddrescue_words.specs.Command.{Command, Rescue as Rescues}
use Rattle.ddrescue_words.specs.Asking.{Asks}
use Rattle.rescue_safety.specs.Safe.{IsSafeAnywhere}
use Rattle.rescue_safety.specs.Rescue.{Rescue}
use Rattle.rescue_safety.specs.Plain.{IsName, PlainCall, plain_run}
use Rattle.rescue_safety.proofs.SafeLemmas.{any_stop_is_safe}

-- a table of the options, whatever it holds its texts in
row_with : Meaning → Row
row_with m = record {
  short = m.0;
  long = record { now = m.1; ref_ptr = (0, 0) };
  takes = m.2;
  wants = Nothing;
  help = record { now = []; ref_ptr = (0, 0) };
}

rows_mean : (ms : List Meaning) → map meaning_of_row (map row_with ms) ≡ ms
unfolding row_with
rows_mean [] = refl
rows_mean (m ∷ ms) = ap (λ (l : List Meaning). m ∷ l) (rows_mean ms)

abbrev table : List Row
table = map row_with option_meanings

-- what a word brings that is an operand, after which anything may follow, as after an option
abbrev operand : ℕ → Brought
operand n = one_operand n (one_item 0 0 None).next

name_means : (n : ℕ) (w : List ℕ) → IsName w → meaning table (operand 0).next n w ≡ Ok (operand n)
name_means n [] name = absurd name
name_means n (c ∷ []) name = refl
name_means n (c ∷ d ∷ rest) name = let other : nat_eq c 45 ≡ false = ne_eqb c 45 name in rw other refl

three_bring : (a b c : List ℕ) → IsName a → IsName b → IsName c
    → Bring table (operand 0).next 1 (a ∷ b ∷ c ∷ []) [] (1 ∷ 2 ∷ 3 ∷ [])
three_bring a b c first second third = (
  operand 1,
  [],
  2 ∷ 3 ∷ [],
  name_means 1 a first,
  refl,
  refl,
  (
    operand 2,
    [],
    3 ∷ [],
    name_means 2 b second,
    refl,
    refl,
    (operand 3, [], [], name_means 3 c third, refl, refl, (tt, refl, refl)),
  ),
)

abbrev plain_command : (infile outfile mapfile : List ℕ) → Command
plain_command infile outfile mapfile = record {
  infile = infile;
  outfile = outfile;
  mapfile = Some mapfile;
  domain_map = None;
  test_map = None;
  options = no_options 512;
}

-- and none is empty
not_empty : (x : ℕ) (xs : List ℕ) → is_empty_text (x ∷ xs) ≡ false
not_empty x xs = ne_eqb (length (x ∷ xs)) 0 (λ is. omega (arith, is))

none_empty : (x y z : ℕ) (xs ys zs : List ℕ)
    → empty_operand ((x ∷ xs) ∷ (y ∷ ys) ∷ (z ∷ zs) ∷ []) (1 ∷ 2 ∷ 3 ∷ []) ≡ None
none_empty x y z xs ys zs =
    let first : is_empty_text (x ∷ xs) ≡ false = not_empty x xs in
    let second : is_empty_text (y ∷ ys) ≡ false = not_empty y ys in
    let third : is_empty_text (z ∷ zs) ≡ false = not_empty z zs in
    rw first (rw second (rw third refl))

plain_asks : (a b c : List ℕ) → IsName a → IsName b → IsName c → Asks (a ∷ b ∷ c ∷ []) (plain_command a b c)
plain_asks [] b c first second third = absurd first
plain_asks (x ∷ xs) [] c first second third = absurd second
plain_asks (x ∷ xs) (y ∷ ys) [] first second third = absurd third
plain_asks (x ∷ xs) (y ∷ ys) (z ∷ zs) first second third = record {
  rows = table;
  options = record { meanings = rows_mean option_meanings };
  items = [];
  operands = 1 ∷ 2 ∷ 3 ∷ [];
  reading = record { brings = three_bring (x ∷ xs) (y ∷ ys) (z ∷ zs) first second third };
  is = ap (λ (o : Option ℕ). unless_empty o (Ok (Rescues (plain_command (x ∷ xs) (y ∷ ys) (z ∷ zs))))) (none_empty x y z xs ys zs);
}

plain_rescue : PlainCall → Rescue
plain_rescue p = record {
  did = p.did;
  command = plain_command p.infile p.outfile p.mapfile;
  asks = subst (λ (ws : List (List ℕ)). Asks ws (plain_command p.infile p.outfile p.mapfile)) (sym p.words)
      (plain_asks p.infile p.outfile p.mapfile p.infile_name p.outfile_name p.mapfile_name);
  mapfile = p.mapfile;
  named = refl;
}

pub plain_words_are_safe : (p : PlainCall) → IsSafeAnywhere (plain_run p)
unfolding plain_rescue
plain_words_are_safe p = any_stop_is_safe (plain_rescue p) refl
