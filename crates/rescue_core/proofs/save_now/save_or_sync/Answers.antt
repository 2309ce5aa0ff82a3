use Rattle.rescue_core.proofs.save_now.save_or_sync.Goals as goal

pub returns-in-Some : goal.returns-in-Some
returns-in-Some g c = rw c.in-Some.is (rw c.in-Some.is at c.save_now.ensures.call)
