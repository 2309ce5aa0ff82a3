-- What a reading asks for is within limits, and why it is refused for its modes.
use Rattle.std.proofs.Common.{◌≡◌, ◌≢◌, ℕ, Bool, true, false, cond, ◌&&◌, nat_eq, List, [], ◌∷◌, is_some, Option, Some, None, Result, Ok, Err, refl, sym, ◌∙◌, ap, subst, arith}
use Rattle.std.proofs.lemmas.Bool.Decides.{nat_tests}
use Rattle.std.proofs.lemmas.Option.{same_Some}
use Rattle.std.specs.Option.{option_and_then}
use Rattle.option_words.specs.declared.row.Row.{Row}
use Rattle.option_words.specs.declared.reading.Item.{Item}
use Rattle.option_words.specs.declared.fault.UsageFault.{UsageFault}
use Rattle.option_words.specs.declared.fault.UsageFault.TheVariants.{BadValue, Modes}
use Rattle.option_words.specs.Reading.{IsReading}
use Rattle.option_words.specs.Values.{empty_operand, is_name, last_value}
use Rattle.option_words.specs.Grammar.{Unread, Wrong, unless_empty}
use Rattle.option_words.proofs.MeaningLemmas.{asked_within}
use Rattle.option_words.proofs.ResultLemmas.{unless_part}
use Rattle.ddrescuelog_words.specs.declared.mode.LogMode.{LogMode}
use Rattle.ddrescuelog_words.specs.declared.options.LogOptions.{LogOptions}
use Rattle.ddrescuelog_words.specs.Modes.{creates, has_other, other_letter}
use Rattle.ddrescuelog_words.specs.Options.{ends_beyond, mode_letters, no_options, option_meanings, options_in}
use Rattle.ddrescuelog_words.specs.Command.{Command, AreInLimits, AreOptions, IsAsked, command_by, command_in, is_too_long, log_grammar, modes_given, other_in, size_word, unless_too_long, with_mode, with_operand}
use Rattle.ddrescuelog_words.specs.Laws.{OneModeIsWanted}
use Rattle.ddrescuelog_words.proofs.OptionLemmas.{AreKept, Named, Same, Set, none_counted, options_keep}

abbrev told : Command → Result Command UsageFault
told c = Ok c

-- what is asked for by options with this mode
record IsOf (words : List (List ℕ)) (items : List Item) (o : LogOptions) (m : LogMode) (c : Command) : Type 0 where
  options : c.options ≡ o
  mode : c.mode ≡ m
  other : c.other ≡ other_in words items m

same_told : (c c' : Command) → told c ≡ told c' → c ≡ c'
same_told c c' e = cc

operand_part : (words : List (List ℕ)) (items : List Item) (o : LogOptions) (m : LogMode) (os : List ℕ) (c : Command)
    → with_operand words items o m os ≡ told c → IsOf words items o m c
operand_part words items o m [] c e = absurd (cc)
operand_part words items o m (n ∷ []) c e =
    let same = same_told _ c e in
    subst (IsOf words items o m) same (record { options = refl; mode = refl; other = refl })
operand_part words items o m (n ∷ k ∷ more) c e = absurd (cc)

by_count : (b : Bool) (r : Result Command UsageFault) (n : ℕ) (c : Command) → cond b r (Err (Modes n)) ≡ told c
    → r ≡ told c
by_count true r n c e = e
by_count false r n c e = absurd (cc)

-- what is asked for by these options
record IsOfOptions (words : List (List ℕ)) (items : List Item) (o : LogOptions) (m : Option LogMode) (c : Command)
    : Type 0 where
  given : m ≡ Some c.mode
  parts : IsOf words items o c.mode c

mode_part : (words : List (List ℕ)) (items : List Item) (o : LogOptions) (m : Option LogMode) (os : List ℕ)
    (c : Command) → with_mode words items o m os ≡ told c → IsOfOptions words items o m c
mode_part words items o None os c e = absurd (cc)
mode_part words items o (Some m) os c e =
    let p = operand_part words items o m os c
    (by_count (nat_eq (modes_given items) 1) (with_operand words items o m os) (modes_given items) c e) in
    record {
      given = ap Some (sym p.mode);
      parts = subst (λ m. IsOf words items o m c) (sym p.mode) p;
    }

-- a command that isn't too long
record IsShort (r : Result Command UsageFault) (c : Command) : Type 0 where
  read : r ≡ told c
  short : is_too_long c ≡ false

short_by : (b : Bool) (n : ℕ) (c' c : Command) → is_too_long c' ≡ b → cond b (Err (BadValue n)) (told c') ≡ told c
    → IsShort (told c') c
short_by true n c' c is e = absurd (cc)
short_by false n c' c is e =
    record { read = e; short = ap is_too_long (sym (same_told c' c e)) ∙ is }

short_part : (n : ℕ) (r : Result Command UsageFault) (c : Command) → unless_too_long n r ≡ told c → IsShort r c
short_part n (Err f) c e = absurd (cc)
short_part n (Ok c') c e = short_by (is_too_long c') n c' c refl e

-- options that are accepted, and what is asked for by them
record AreAccepted (words : List (List ℕ)) (items : List Item) (r : Result LogOptions ℕ) (c : Command) : Type 0 where
  read : r ≡ Ok c.options
  is : IsOfOptions words items c.options c.options.mode c
  short : is_too_long c ≡ false

options_by : (words : List (List ℕ)) (items : List Item) (r : Result LogOptions ℕ) (os : List ℕ) (c : Command)
    → command_by words items r os ≡ told c → AreAccepted words items r c
options_by words items (Err n) os c e = absurd (cc)
options_by words items (Ok o) os c e =
    let asked = with_mode words items o o.mode os in
    let s = short_part (size_word items) (unless_empty (empty_operand words os) asked) c e in
    let named = unless_part (empty_operand words os) asked c s.read in
    let p = mode_part words items o o.mode os c named in
    record {
      read = ap Ok (sym p.parts.options);
      is = subst (λ (o : LogOptions). IsOfOptions words items o o.mode c) (sym p.parts.options) p;
      short = s.short;
    }

not_both : (a b : Bool) → (a && b) ≡ false → a ≡ true → b ≡ false
not_both true b e h = e
not_both false b e h = absurd (cc)

-- the other map of a mode that is named has a name
other_by : (words : List (List ℕ)) (items : List Item) (m : LogMode) (letter : Option ℕ) → other_letter m ≡ letter
    → ((l : ℕ) → other_letter m ≡ Some l → is_name (last_value option_meanings words l items) ≡ true)
    → is_some letter ≡ true → is_name (option_and_then (λ l. last_value option_meanings words l items) letter) ≡ true
other_by words items m None at f h = absurd (cc)
other_by words items m (Some l) at f h = f l at

other_named : (words : List (List ℕ)) (items : List Item) (block : ℕ) (o : LogOptions) (m : LogMode)
    → Named words items (no_options block) o → o.mode ≡ Some m → has_other m ≡ true
    → is_name (other_in words items m) ≡ true
other_named words items block o m n e h = elim n [
  | Same same none ↦ absurd (cc)
  | Set m' e' f ↦
      let is : m' ≡ m = same_Some m' m (sym e' ∙ e) in
      other_by words items m (other_letter m) refl
      (subst (λ (m : LogMode). (l : ℕ) → other_letter m ≡ Some l
      → is_name (last_value option_meanings words l items) ≡ true) is f) h
]

no_name : (name : ℕ → Option (List ℕ)) (letter : Option ℕ) → is_some letter ≡ false
    → option_and_then name letter ≡ None
no_name name None h = refl
no_name name (Some l) h = absurd (cc)

in_limits : (words : List (List ℕ)) (items : List Item) (r : Result LogOptions ℕ) (c : Command)
    → AreAccepted words items r c → AreKept words items c.options → AreInLimits c
in_limits words items r c a k = record {
  block = k.range.block.low;
  block_max = k.range.block.high;
  input_position = k.range.input;
  output_position = k.range.output;
  size = k.range.length;
  created = not_both (creates c.mode) (ends_beyond c.options c.options.size) a.short;
  other = λ h. ap is_name a.is.parts.other
      ∙ other_named words items k.named.0 c.options c.mode k.named.1 a.is.given h;
  no_other = λ h. a.is.parts.other
      ∙ no_name (λ l. last_value option_meanings words l items) (other_letter c.mode) h;
}

-- what a reading asks for is what its words ask for, and nothing else
pub reading_asks : (words : List (List ℕ)) (rows : List Row) (is : List Item) (os : List ℕ) (c : Command)
    → AreOptions rows → IsReading rows words is os → command_in words is os ≡ Ok c → IsAsked words c
reading_asks words rows is os c o r e =
    let accepted = options_by words is (options_in words is) os c e in
    let keeps = options_keep words is c.options accepted.read in
    asked_within log_grammar words rows is os c (AreInLimits c) c.options.quiet o r e
    (in_limits words is (options_in words is) c accepted keeps) keeps.quiet_is

-- ---- words that are refused for their modes

operands_refused : (words : List (List ℕ)) (items : List Item) (o : LogOptions) (m : LogMode) (os : List ℕ) (n : ℕ)
    → with_operand words items o m os ≡ Err (Modes n) → ⊥
operands_refused words items o m [] n e = absurd (cc)
operands_refused words items o m (k ∷ []) n e = absurd (cc)
operands_refused words items o m (k ∷ j ∷ more) n e = absurd (cc)

not_one : (m : ℕ) → nat_eq m 1 ≡ false → m ≢ 1
not_one m e = grind (arith, nat_tests)

count_refused : (b : Bool) (r : Result Command UsageFault) (k n : ℕ) → nat_eq k 1 ≡ b → (r ≡ Err (Modes n) → ⊥)
    → cond b r (Err (Modes k)) ≡ Err (Modes n) → n ≢ 1
count_refused true r k n at never e = absurd (never e)
count_refused false r k n at never e = let same : k ≡ n = cc in subst (λ x. x ≢ 1) same (not_one k at)

-- none is given where the options name none
none_named : (words : List (List ℕ)) (items : List Item) (block : ℕ) (o : LogOptions)
    → Named words items (no_options block) o → o.mode ≡ None → modes_given items ≡ 0
none_named words items block o n e = elim n [
  | Same same none ↦ none_counted items mode_letters none
  | Set m e' f ↦ absurd (cc)
]

mode_refused : (words : List (List ℕ)) (items : List Item) (o : LogOptions) (m : Option LogMode) (os : List ℕ) (n : ℕ)
    → (m ≡ None → modes_given items ≡ 0) → with_mode words items o m os ≡ Err (Modes n) → n ≢ 1
mode_refused words items o None os n none e =
    let zero : modes_given items ≡ 0 = none refl in
    let same : modes_given items ≡ n = cc in
    omega arith
mode_refused words items o (Some m) os n none e =
    count_refused (nat_eq (modes_given items) 1) (with_operand words items o m os) (modes_given items) n refl
    (operands_refused words items o m os n) e

unless_refused : (k : Option ℕ) (r : Result Command UsageFault) (n : ℕ) → unless_empty k r ≡ Err (Modes n)
    → r ≡ Err (Modes n)
unless_refused None (Ok c) n e = absurd (cc)
unless_refused (Some k) (Ok c) n e = absurd (cc)
unless_refused None (Err f) n e = e
unless_refused (Some k) (Err f) n e = e

long_refused_by : (b : Bool) (k : ℕ) (c : Command) (n : ℕ) → cond b (Err (BadValue k)) (told c) ≡ Err (Modes n) → ⊥
long_refused_by true k c n e = absurd (cc)
long_refused_by false k c n e = absurd (cc)

long_refused : (k : ℕ) (r : Result Command UsageFault) (n : ℕ) → unless_too_long k r ≡ Err (Modes n)
    → r ≡ Err (Modes n)
long_refused k (Ok c) n e = absurd (long_refused_by (is_too_long c) k c n e)
long_refused k (Err f) n e = e

refused_by : (words : List (List ℕ)) (items : List Item) (r : Result LogOptions ℕ) (os : List ℕ) (n : ℕ)
    → options_in words items ≡ r → command_by words items r os ≡ Err (Modes n) → n ≢ 1
refused_by words items (Err k) os n at e = absurd (cc)
refused_by words items (Ok o) os n at e =
    let k = options_keep words items o at in
    mode_refused words items o o.mode os n (none_named words items k.named.0 o k.named.1)
    (unless_refused (empty_operand words os) (with_mode words items o o.mode os) n
    (long_refused (size_word items) (unless_empty (empty_operand words os) (with_mode words items o o.mode os)) n e))

pub one_mode_wanted : OneModeIsWanted
one_mode_wanted words n refused = elim refused [
  | Unread rows f o w e ↦ absurd (cc)
  | Wrong rows items os o r e ↦ refused_by words items (options_in words items) os n refl e
]
