-- By whether the record was read.
use Rattle.partition_domain.proofs.TurnLemmas.{turn_read, turn_stopped}
use Rattle.partition_domain.proofs.chain.turn.Goals as goal

pub returns-in-Ok-clause-turned : goal.returns-in-Ok-clause-turned
returns-in-Ok-clause-turned g c = λ main read.
    turn_read c.args.k main c.args.chain read c.in-Ok.table c.pass.result _ _ c.requires.near c.requires.more
    c.in-Ok.ensures.read c.pass.ensures.passes

pub returns-in-Err-clause-turned : goal.returns-in-Err-clause-turned
returns-in-Err-clause-turned g c = λ main read.
    turn_stopped c.args.k main c.args.chain read c.in-Err.stop _ _ c.requires.near c.requires.more
    c.in-Err.ensures.read
