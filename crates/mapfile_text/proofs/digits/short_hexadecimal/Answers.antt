-- A digit goes in front of those that were written.
use Rattle.std.proofs.Common.{◌≡◌, ◌-◌, ◌/◌, ◌%◌, ◌++◌, true, [], ◌∷◌, drop, arith, sym, ap, ◌∙◌}
use Rattle.std.specs.Fmt.{digit_glyph}
use Rattle.std.proofs.lemmas.List.{length-set, take-set-le, take-append-drop}
use Rattle.mapfile_text.proofs.DigitLemmas.{front_digit}
use Rattle.mapfile_text.proofs.LastDigits.{last_digits, last_none, last_more, eight_last}
use Rattle.mapfile_text.proofs.digits.short_hexadecimal.Goals as goal

pub loop-i-preserved : goal.loop-i-preserved
loop-i-preserved c =
    let l = c.loop-i in
    let k : l.i - 1 - 2 ≡ l.i - 2 - 1 = omega arith in
    record {
      from = omega arith;
      within = omega arith;
      len = length-set l.out (l.i - 1) c.digit.result ∙ l.invariant.len;
      mark = take-set-le 2 l.out (l.i - 1) c.digit.result (omega arith) ∙ l.invariant.mark;
      digits_are =
          ap (last_digits (l.i - 1 - 2) (l.rest / 16))
          (front_digit l.out l.i _ _ (omega arith) (omega (arith, l.invariant.len)) c.digit.ensures)
          ∙ ap (λ j. last_digits j (l.rest / 16) (digit_glyph true (l.rest % 16) ∷ drop l.i l.out)) k
          ∙ sym (last_more (l.i - 2) l.rest (drop l.i l.out) (omega arith))
          ∙ l.invariant.digits_are;
    }

pub returns : goal.returns
returns c =
    let l = c.loop-i in
    let two : l.i ≡ 2 = omega arith in
    let after : drop 2 l.out ≡ last_digits 8 c.args.n [] =
    sym (last_none (l.i - 2) l.rest (drop 2 l.out) (omega arith))
    ∙ ap (λ j. last_digits (l.i - 2) l.rest (drop j l.out)) (sym two) ∙ l.invariant.digits_are in
    sym (take-append-drop 2 l.out) ∙ ap (λ t. t ++ drop 2 l.out) l.invariant.mark
    ∙ ap (λ ds. 48 ∷ 120 ∷ ds) (after ∙ eight_last c.args.n c.requires)
