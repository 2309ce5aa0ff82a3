use Rattle.std.proofs.Common.{length, drop, rules}
use Rattle.real_files.proofs.AheadLemmas.{came_in}
use Rattle.real_files.proofs.read_ahead.ReadAhead.read.Goals as goal

pub returns-clause-came : goal.returns-clause-came
returns-clause-came g c =
    came_in _ _ _ _ c.read_front-came.new.room (drop (length c.read_front-came.new.room) c.self.inside.room.items)
    (search rules) (search rules) c.read_front-came.ensures.came
