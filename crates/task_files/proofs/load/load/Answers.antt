use Rattle.task_files.proofs.LoadLemmas.{none_loads}
use Rattle.task_files.proofs.load.load.Goals as goal

pub returns-in-Some-clause-loaded : goal.returns-in-Some-clause-loaded
returns-in-Some-clause-loaded g c = rw c.in-Some.is c.load_mapfile.ensures.loaded

pub returns-in-None-clause-loaded : goal.returns-in-None-clause-loaded
returns-in-None-clause-loaded g c =
    rw c.in-None.is (none_loads _ c.start_fresh.result _ c.start_fresh.ensures.fresh c.start_fresh.ensures.lists
    c.start_fresh.ensures.starved)
