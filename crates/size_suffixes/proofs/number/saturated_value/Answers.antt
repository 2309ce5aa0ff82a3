-- One more digit multiplies by the base and adds, and both stop at the largest `u64`.
use Rattle.std.proofs.Common.{◌-◌, ◌^◌}
use Rattle.std.proofs.lemmas.Int.Digits.{digits_value_more}
use Rattle.size_suffixes.proofs.Saturate.{saturates_more}
use Rattle.size_suffixes.proofs.number.saturated_value.Goals as goal

pub loop-digit-preserved : goal.loop-digit-preserved
loop-digit-preserved c =
    rw (digits_value_more _ _ _ c.loop-digit-test.true)
    (cc (saturates_more (2 ^ 64 - 1) _ _ c.value_of_digit.result _ _ c.requires c.loop-digit.invariant c.saturating_mul.ensures))
