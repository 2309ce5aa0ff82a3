use Rattle.rescue_core.proofs.keeper.Keeper.close_stopped.Goals as goal

pub returns-in-SourceLost-clause-closes : goal.returns-in-SourceLost-clause-closes
returns-in-SourceLost-clause-closes g c = rw c.in-SourceLost.is (rw c.in-SourceLost.is at c.save_last.ensures.saves)

pub returns-in-NoMemory-clause-closes : goal.returns-in-NoMemory-clause-closes
returns-in-NoMemory-clause-closes g c = rw c.in-NoMemory.is (rw c.in-NoMemory.is at c.save_last-in-NoMemory.ensures.saves)

pub returns-in-LimitMet-clause-closes : goal.returns-in-LimitMet-clause-closes
returns-in-LimitMet-clause-closes g c = rw c.in-LimitMet.is (rw c.in-LimitMet.is at c.save_last-in-LimitMet.ensures.saves)
