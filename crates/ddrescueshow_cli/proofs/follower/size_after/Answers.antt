-- The line says the size, or begins otherwise.
use Rattle.std.proofs.Common.{◌≡◌, Option, Some, None, ℕ, refl, arith}
use Rattle.ddrescueshow_cli.specs.Progress.{Another, Opening}
use Rattle.ddrescueshow_cli.proofs.follower.size_after.Goals as goal

pub returns-in-Some : goal.returns-in-Some
returns-in-Some c =
    Opening c.in-Some.opening c.in-Some.ensures.printed.0 (omega arith) c.in-Some.ensures.printed.1 refl

pub returns-in-None : goal.returns-in-None
returns-in-None c =
    Another (λ n rest few is. let none : None ≡ Some n = c.in-None.ensures.read n rest few is in cc) refl
