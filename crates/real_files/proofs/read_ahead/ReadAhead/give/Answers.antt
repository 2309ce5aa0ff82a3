use Rattle.std.proofs.Common.{rules}
use Rattle.real_files.proofs.AheadLemmas.{read_gives}
use Rattle.real_files.proofs.read_ahead.ReadAhead.give.Goals as goal

pub returns-else-not-given-clause-ahead : goal.returns-else-not-given-clause-ahead
returns-else-not-given-clause-ahead g c = λ held more.
    read_gives _ _ _ _ _ _ _ _ c.read.new.self _ (search rules) (search rules) (search rules) (search rules)
    (search rules) (search rules) (search rules) (search rules) (search rules) (search rules)
