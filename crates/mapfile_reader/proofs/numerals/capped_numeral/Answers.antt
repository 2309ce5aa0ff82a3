-- The digits come after the `0x` with which the field begins.
use Rattle.std.proofs.Common.{◌≡◌, ◌<◌, ◌-◌, ◌∷◌, List, ℕ, length, drop, take, get_or, sym, ◌∙◌, ap, arith}
use Rattle.std.proofs.lemmas.Bool.{eqb-false}
use Rattle.mapfile_reader.proofs.FieldLemmas.{rest_from}
use Rattle.mapfile_reader.proofs.DigitsRead.{short_numeral, after_prefix}
use Rattle.mapfile_reader.proofs.numerals.capped_numeral.Goals as goal

pub returns-in-48 : goal.returns-in-48
returns-in-48 c =
    let field = c.args.field.now in
    let ds : List ℕ = take (length field - 2) (drop 2 field) in
    let zero_first : get_or field 0 0 ≡ 48 = omega arith in
    let mark : get_or field 1 0 ≡ 120 = omega arith in
    let is : field ≡ 48 ∷ 120 ∷ ds =
    after_prefix field c.in-48.len_at_least zero_first mark ∙ ap (λ xs. 48 ∷ 120 ∷ xs) (sym (rest_from field 2)) in
    let some : 0 < length ds = omega (arith, eqb-false _ _ (sym c.is_empty.ensures ∙ c.if-not-is_empty.true)) in
    let found = c.hexadecimal.ensures in
    short_numeral field ds c.hexadecimal.result is some c.if-digits-le-SHORT.true found.digits found.value found.none
