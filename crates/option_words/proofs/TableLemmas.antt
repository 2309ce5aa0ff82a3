-- What the test of a table says of its rows.
use Rattle.std.proofs.Common.{◌≡◌, ℕ, zero, suc, Bool, true, false, not, ◌&&◌, List, [], ◌∷◌, length, Some, Contains, nat_eq, refl, sym, ◌∙◌, ap, subst, arith}
use Rattle.std.proofs.lemmas.Bool.{eq-eqb, and_parts}
use Rattle.std.proofs.lemmas.List.Sums.{AllPass-from_list_all}
use Rattle.std.proofs.lemmas.Slice.Eq.{bytes_eq-Decides}
use Rattle.std.specs.List.{list_all, slice_get}
use Rattle.std.specs.Str.{bytes_eq}
use Rattle.option_words.specs.declared.row.Row.{Row}
use Rattle.option_words.specs.Tables.{letter_fits, holds_no_sign, name_fits, share_letter, share_nothing, fits_table, is_table}
use Rattle.option_words.specs.Laws.{TableRowsFit, TableRowsAreApart}

negated : (a : Bool) → not a ≡ true → a ≡ true → ⊥
negated true e h = cc
negated false e h = cc

all_at : (passes : Row → Bool) (rows : List Row) (k : ℕ) (other : Row) → list_all passes rows ≡ true → slice_get rows k ≡ Some other
    → passes other ≡ true
all_at passes [] k other h e = cc
all_at passes (r ∷ rs) zero other h e = let same : r ≡ other = cc in ap passes (sym same) ∙ (and_parts (passes r) (list_all passes rs) h).0
all_at passes (r ∷ rs) (suc k) other h e = all_at passes rs k other (and_parts (passes r) (list_all passes rs) h).1 e

-- what it says of two rows
abbrev Differ : Row → Row → Type 0
Differ row other = ((c : ℕ) → row.short ≡ Some c → other.short ≡ Some c → ⊥) × (row.long.now ≡ other.long.now → ⊥)

differ : (row other : Row) → share_nothing row other ≡ true → Differ row other
differ row other apart =
    let parts = and_parts (not (share_letter row.short other.short)) (not (bytes_eq row.long.now other.long.now)) apart in (
      λ c e d. negated (share_letter row.short other.short) parts.0
          (ap (λ s. share_letter s other.short) e ∙ ap (share_letter (Some c)) d ∙ eq-eqb c c refl),
      λ e. negated (bytes_eq row.long.now other.long.now) parts.1 ((bytes_eq-Decides row.long.now other.long.now).1 e),
    )

pub rows_apart : TableRowsAreApart
rows_apart [] j k row other table lt e d = let no : ⊥ = cc in absurd no
rows_apart (r ∷ rs) zero zero row other table lt e d = absurd (omega arith)
rows_apart (r ∷ rs) zero (suc k) row other table lt e d =
    let fit : fits_table r rs ≡ true = (and_parts (fits_table r rs) (is_table rs) table).0 in
    let apart : list_all (share_nothing r) rs ≡ true
    = (and_parts (letter_fits r.short && name_fits r.long.now) (list_all (share_nothing r) rs) fit).1 in
    let same : r ≡ row = cc in
    let From : Row → Type 0 = λ v. Differ v other in
    subst From same (differ r other (all_at (share_nothing r) rs k other apart d))
rows_apart (r ∷ rs) (suc j) zero row other table lt e d = absurd (omega arith)
rows_apart (r ∷ rs) (suc j) (suc k) row other table lt e d =
    rows_apart rs j k row other (and_parts (fits_table r rs) (is_table rs) table).1 (omega arith) e d

-- what it says of one row
abbrev Fits : Row → Type 0
Fits row = (row.short ≡ Some 45 → ⊥) × (row.long.now ≡ [] → ⊥) × (Contains row.long.now 61 → ⊥)

row_fits : (row : Row) (rows : List Row) → fits_table row rows ≡ true → Fits row
row_fits row rows fit =
    let letter_and_name = (and_parts (letter_fits row.short && name_fits row.long.now) (list_all (share_nothing row) rows) fit).0 in
    let parts = and_parts (letter_fits row.short) (name_fits row.long.now) letter_and_name in
    let letter = parts.0 in
    let name = and_parts (not (nat_eq (length row.long.now) 0)) (holds_no_sign row.long.now) parts.1 in (
      λ e. let wrong : letter_fits row.short ≡ false = ap letter_fits e in cc,
      λ e. negated (nat_eq (length row.long.now) 0) name.0 (ap (λ (v : List ℕ). nat_eq (length v) 0) e),
      λ found. negated (nat_eq _ 61) (AllPass-from_list_all (λ b. not (nat_eq b 61)) row.long.now name.1 found.0 61 found.1) (eq-eqb _ 61 found.2),
    )

pub rows_fit : TableRowsFit
rows_fit [] k row table e = let no : ⊥ = cc in absurd no
rows_fit (r ∷ rs) zero row table e =
    let same : r ≡ row = cc in subst Fits same (row_fits r rs (and_parts (fits_table r rs) (is_table rs) table).0)
rows_fit (r ∷ rs) (suc k) row table e = rows_fit rs k row (and_parts (fits_table r rs) (is_table rs) table).1 e
