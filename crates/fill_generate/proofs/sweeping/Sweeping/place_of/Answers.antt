use Rattle.std.proofs.Common.{ap, arith}
use Rattle.fill_generate.specs.SweepState.{SweepState}
use Rattle.fill_generate.proofs.sweeping.Sweeping.place_of.Goals as goal

pub overflow_sub-result : goal.overflow_sub-result
overflow_sub-result g c = omega (arith, c.requires.from, ap (λ (r : SweepState). r.settings.input_position) c.self.view_is)
