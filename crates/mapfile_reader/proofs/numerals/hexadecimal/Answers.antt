-- One digit more multiplies by 16 and adds; at most 15 digits come to less than 2^60.
use Rattle.std.proofs.Common.{◌≡◌, ◌<◌, get_or, arith}
use Rattle.std.specs.Char.{digit_value}
use Rattle.std.proofs.lemmas.Int.Digits.{digits_value_more, digits_more}
use Rattle.mapfile_reader.proofs.DigitsRead.{digit_at, value_is_small}
use Rattle.mapfile_reader.proofs.numerals.hexadecimal.Goals as goal

pub returns-then-digit-eq16-clause-none : goal.returns-then-digit-eq16-clause-none
returns-then-digit-eq16-clause-none c = λ all. omega (arith, digit_at 16 c.args.digits.now c.loop-byte.byte-index all c.loop-byte-test.true)

pub overflow_mul-value : goal.overflow_mul-value
overflow_mul-value c = omega (arith, value_is_small c.args.digits.now c.loop-byte.byte-index c.loop-byte.invariant.digits c.loop-byte-test.true c.requires)

pub overflow_add-value : goal.overflow_add-value
overflow_add-value c = omega (arith, value_is_small c.args.digits.now c.loop-byte.byte-index c.loop-byte.invariant.digits c.loop-byte-test.true c.requires)

pub loop-byte-preserved : goal.loop-byte-preserved
loop-byte-preserved c =
    let ds = c.args.digits.now in
    let i = c.loop-byte.byte-index in
    let below : digit_value (get_or ds i 0) < 16 = omega arith in
    let is : c.value_of_digit-digit.result ≡ digit_value (get_or ds i 0) = omega arith in
    record {
      digits = digits_more 16 ds i c.loop-byte-test.true c.loop-byte.invariant.digits below;
      value = omega (arith, digits_value_more 16 ds i c.loop-byte-test.true);
    }
