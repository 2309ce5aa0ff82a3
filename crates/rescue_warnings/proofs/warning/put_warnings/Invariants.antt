-- All lines so far were put.
use Rattle.rescue_warnings.proofs.PutLemmas.{ArePutTo}
use Rattle.rescue_warnings.proofs.warning.put_warnings.Given as goal

abbrev pub invariant-lines : goal.invariant-lines
invariant-lines g l =
    ArePutTo l.program l.names l.advices l.advice-index (g.P.Console.state l.fn.console) (g.P.Console.state l.console)
