-- A letter that takes no value is followed by further letters; any other ends its word.
use Rattle.std.proofs.Common.{◌≡◌, ℕ, ◌+◌, ◌-◌, ◌≤◌, true, false, length, List, None, Some, sym, ◌∙◌, ap, inr, arith}
use Rattle.std.proofs.lemmas.Str.{IsUtf8-past_char}
use Rattle.std.specs.Str.{chars}
use Rattle.std.specs.Str.Iter.{chars_rest}
use Rattle.std.specs.Char.{len_utf8}
use Rattle.option_words.specs.declared.choice.Chosen.{Chosen}
use Rattle.option_words.specs.declared.fault.WordFault.TheVariants.{UnknownShort}
use Rattle.option_words.specs.Rows.{first_row, has_letter, is_alone}
use Rattle.option_words.specs.Meanings.{option_meaning, rest_value}
use Rattle.option_words.proofs.SpotLemmas.{letters_boundary}
use Rattle.option_words.proofs.TakeLemmas.{leads_along, leads_end, leads_flag, letter_ends, letter_found, letter_goes_on, letter_unknown, length_past, ok_along, chars_end}
use Rattle.option_words.proofs.reader.Reader.take_letters.Goals as goal

pub range_from-requires : goal.range_from-requires
range_from-requires c = λ _. letters_boundary c.args.word.now c.utf8.word c.requires.form

pub returns-in_default-find_letter-clause-err : goal.returns-in_default-find_letter-clause-err
returns-in_default-find_letter-clause-err c =
    let bs : List ℕ = chars_rest c.loop-letter.letters in
    let rest : List ℕ = chars_rest c.next.new.self in
    let short : length bs ≤ length c.args.word.now = omega arith in
    let none : first_row (has_letter c.in-Some.letter) 0 c.args.rows.now ≡ None = cc in
    c.loop-letter.invariant.leads.fault (UnknownShort c.args.n c.in-Some.letter)
    (inr (letter_unknown c.args.rows.now c.args.n (length c.args.word.now) c.in-Some.letter bs rest c.loop-letter.invariant.utf8
    c.in-Some.ensures.steps.0 short none))

pub returns-then-not-stands_alone-clause-ok : goal.returns-then-not-stands_alone-clause-ok
returns-then-not-stands_alone-clause-ok c =
    let bs : List ℕ = chars_rest c.loop-letter.letters in
    let rest : List ℕ = chars_rest c.next.new.self in
    let short : length bs ≤ length c.args.word.now = omega arith in
    let chosen : Chosen = c.in-Some-find_letter.chosen in
    let found : first_row (has_letter c.in-Some.letter) 0 c.args.rows.now ≡ Some c.in-Some-find_letter.chosen = cc in
    let alone : is_alone chosen.takes ≡ false = sym c.stands_alone.ensures ∙ c.if-not-stands_alone.true in
    let valued : rest_value c.args.n (length c.args.word.now - length rest) (chars rest) ≡ c.find_rest_value-value.result
    = ap (λ (v : List ℕ). rest_value c.args.n (length c.args.word.now - length v) (chars v)) (sym c.as_str.ensures)
    ∙ sym c.find_rest_value-value.ensures in
    ok_along c.put_option.result _ _ _ _ _ _ c.loop-letter.invariant.leads
    (letter_found c.args.rows.now c.args.n (length c.args.word.now) c.in-Some.letter bs rest chosen c.loop-letter.invariant.utf8
    c.in-Some.ensures.steps.0 short found
    ∙ letter_ends chosen.takes _ _ _ _ _ alone ∙ ap (option_meaning chosen.takes chosen.row c.args.n) valued)
    c.put_option.ensures.ok

pub loop-letter-preserved : goal.loop-letter-preserved
loop-letter-preserved c =
    let bs : List ℕ = chars_rest c.loop-letter.letters in
    let rest : List ℕ = chars_rest c.next.new.self in
    let short : length bs ≤ length c.args.word.now = omega arith in
    let spelled = c.in-Some.ensures.steps.0 in
    let len : length bs ≡ len_utf8 c.in-Some.letter + length rest = length_past bs rest c.in-Some.letter spelled in
    let found : first_row (has_letter c.in-Some.letter) 0 c.args.rows.now ≡ Some c.in-Some-find_letter.chosen = cc in
    let chosen : Chosen = c.in-Some-find_letter.chosen in
    let alone : is_alone chosen.takes ≡ true = sym c.stands_alone.ensures ∙ c.if-not-stands_alone.false in
    record {
      utf8 = IsUtf8-past_char bs rest c.in-Some.letter c.loop-letter.invariant.utf8 spelled;
      within = omega arith;
      next_is = c.in_ok-put_item.ensures.ok.next;
      leads = leads_flag _ _ c.loop-letter.self c.put_item.new.self chosen.row c.args.n _
          (leads_along _ _ _ _ _ c.loop-letter.invariant.leads
          (letter_found c.args.rows.now c.args.n (length c.args.word.now) c.in-Some.letter bs rest chosen c.loop-letter.invariant.utf8 spelled short found
          ∙ letter_goes_on chosen.takes _ _ _ _ _ alone))
          c.in_ok-put_item.ensures.ok;
    }

pub returns-clause-ok : goal.returns-clause-ok
returns-clause-ok c =
    let none : c.next.result ≡ None = cc in
    leads_end _ _ _ c.args.rows.now c.args.n _ (chars_rest c.loop-letter.letters) c.loop-letter.invariant.leads
    (chars_end c.loop-letter.letters c.next.result c.next.new.self none c.next.ensures.steps) c.loop-letter.invariant.next_is
