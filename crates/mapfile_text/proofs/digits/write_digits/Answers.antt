-- A digit goes in front of those that were written.
use Rattle.std.proofs.Common.{◌-◌, ◌/◌, true, drop, arith, sym, ap, ◌∙◌}
use Rattle.std.specs.Fmt.{digits_onto}
use Rattle.std.proofs.lemmas.List.{drop_all, take_all, length-set}
use Rattle.mapfile_text.proofs.DigitLemmas.{digits_onto_nil, digits_onto_more, front_digit, front_zeros}
use Rattle.mapfile_text.proofs.digits.write_digits.Goals as goal

pub loop-i-init : goal.loop-i-init
loop-i-init c = record {
  within = omega arith;
  len = c.told-out;
  zeros = take_all 64 c.args.out.now (omega (arith, c.told-out)) ∙ c.requires.zeros;
  digits_are =
      ap (digits_onto 64 c.args.base true c.args.n) (drop_all 64 c.args.out.now (omega (arith, c.told-out)))
      ∙ digits_onto_nil c.args.base c.args.n;
}

pub loop-i-preserved : goal.loop-i-preserved
loop-i-preserved c =
    let l = c.loop-i in
    let base = c.args.base in
    record {
      within = omega arith;
      len = length-set l.out (l.i - 1) c.digit.result ∙ l.invariant.len;
      zeros = front_zeros l.out l.i c.digit.result l.invariant.zeros;
      digits_are =
          ap (digits_onto (l.i - 1) base true (l.rest / base))
          (front_digit l.out l.i _ _ c.loop-i-test.true (omega (arith, l.invariant.len)) c.digit.ensures)
          ∙ sym (digits_onto_more base l.rest (drop l.i l.out) l.i c.loop-i-test.true c.if-rest-eq0.false)
          ∙ l.invariant.digits_are;
    }
