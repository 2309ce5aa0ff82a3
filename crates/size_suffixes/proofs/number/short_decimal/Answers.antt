-- The digits begin with 1 to 9, so that they are decimal ones.
use Rattle.std.proofs.Common.{◌<◌, length, get_or, arith}
use Rattle.size_suffixes.proofs.Digits.{few_digits}
use Rattle.size_suffixes.proofs.number.short_decimal.Goals as goal

pub returns-in-49-to-57 : goal.returns-in-49-to-57
returns-in-49-to-57 c =
    let bytes = c.args.bytes.now in
    let first : 48 < get_or bytes 0 0 = omega arith in
    let some : 0 < length bytes = omega arith in
    few_digits bytes c.decimal.result first some c.if-bytes-le-FEW.true c.decimal.ensures.digits c.decimal.ensures.value
