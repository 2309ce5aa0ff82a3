use Rattle.rescue_core.proofs.keeper.Keeper.close_files.Goals as goal

pub returns-in-None-clause-closes : goal.returns-in-None-clause-closes
returns-in-None-clause-closes g c = rw c.in-None.is c.save_last.ensures.saves

pub returns-in-Some-clause-closes : goal.returns-in-Some-clause-closes
returns-in-Some-clause-closes g c = rw c.in-Some.is c.close_stopped.ensures.closes
