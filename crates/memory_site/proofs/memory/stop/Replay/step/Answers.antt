use Rattle.memory_site.proofs.StopLemmas.{on_ok, fails_again, makes_again}
use Rattle.memory_site.proofs.memory.stop.Replay.step.Goals as goal

pub returns-in-Some-clause-replays : goal.returns-in-Some-clause-replays
returns-in-Some-clause-replays c = on_ok c.fail.result
    (λ h d f r. fails_again c.fail.new.self d f c.args.self.now.kind c.args.listed.now c.in-Some.steps c.in-Some.is
    (h d f r)) c.fail.ensures.replays

pub returns-in-None-clause-replays : goal.returns-in-None-clause-replays
returns-in-None-clause-replays c = on_ok c.make.result
    (λ h d f r. makes_again c.make.new.self d f c.args.self.now.kind c.args.listed.now c.in-None.is (h d f r))
    c.make.ensures.replays
