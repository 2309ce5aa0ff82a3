use Rattle.std.proofs.Common.{arith}
use Rattle.std.proofs.lemmas.Bool.Decides.{nat_tests}
use Rattle.rescue_domain.proofs.domain.Domain.whole.Goals as goal

pub returns-in_err-push-clause-empty : goal.returns-in_err-push-clause-empty
returns-in_err-push-clause-empty c = λ none. absurd (grind (arith, nat_tests, none c.args.pos, c.end_of-end.ensures.below c.args.pos))
