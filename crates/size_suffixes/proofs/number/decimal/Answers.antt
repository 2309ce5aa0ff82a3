-- One digit more multiplies by 10 and adds; at most 18 digits come to less than 10^18.
use Rattle.std.proofs.Common.{◌≡◌, ◌<◌, get_or, arith}
use Rattle.std.specs.Char.{digit_value}
use Rattle.std.proofs.lemmas.Int.Digits.{digits_value_more, digits_more}
use Rattle.size_suffixes.proofs.Digits.{value_is_small}
use Rattle.size_suffixes.proofs.number.decimal.Goals as goal

pub overflow_mul-value : goal.overflow_mul-value
overflow_mul-value c = omega (arith, value_is_small c.args.digits.now c.loop-byte.byte-index c.loop-byte.invariant.digits c.loop-byte-test.true c.requires)

pub overflow_add-value : goal.overflow_add-value
overflow_add-value c = omega (arith, value_is_small c.args.digits.now c.loop-byte.byte-index c.loop-byte.invariant.digits c.loop-byte-test.true c.requires)

pub loop-byte-preserved : goal.loop-byte-preserved
loop-byte-preserved c =
    let ds = c.args.digits.now in
    let i = c.loop-byte.byte-index in
    let below : digit_value (get_or ds i 0) < 10 = omega arith in
    let is : c.value_of_decimal-digit.result ≡ digit_value (get_or ds i 0) = omega arith in
    record {
      digits = digits_more 10 ds i c.loop-byte-test.true c.loop-byte.invariant.digits below;
      value = omega (arith, digits_value_more 10 ds i c.loop-byte-test.true);
    }
