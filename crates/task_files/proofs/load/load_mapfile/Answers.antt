-- What a load did, by what the resume answered.
use Rattle.task_files.proofs.LoadLemmas.{fresh_loads, map_loads, refused_loads, starved_loads, broken_loads}
use Rattle.task_files.proofs.load.load_mapfile.Goals as goal

pub returns-in-Ok-Fresh-clause-loaded : goal.returns-in-Ok-Fresh-clause-loaded
returns-in-Ok-Fresh-clause-loaded g c =
    fresh_loads c.args.names.now _ c.start_fresh.result _ _ (rw c.in-Ok-Fresh.field-0-is at c.in-Ok-Fresh.ensures.told)
    (rw c.in-Ok-Fresh.field-0-is at c.in-Ok-Fresh.ensures.read) c.start_fresh.ensures.fresh c.start_fresh.ensures.lists
    c.start_fresh.ensures.starved

pub returns-in-Ok-Map-clause-loaded : goal.returns-in-Ok-Map-clause-loaded
returns-in-Ok-Map-clause-loaded g c =
    map_loads c.args.names.now _ c.in-Ok-Map.map c.start_from.result _ _
    (rw c.in-Ok-Map.field-0-is at c.in-Ok-Map.ensures.told) (rw c.in-Ok-Map.field-0-is at c.in-Ok-Map.ensures.read)
    c.start_from.ensures.extended c.start_from.ensures.shown c.start_from.ensures.lists c.start_from.ensures.starved

pub returns-in-Err-Site-clause-loaded : goal.returns-in-Err-Site-clause-loaded
returns-in-Err-Site-clause-loaded g c =
    let counts = rw c.in-Err-Site.field-0-is at c.in-Err-Site.ensures.counts in
    rw c.in-Err-Site.field-0-is (broken_loads c.args.names.now _ _ _ _ counts.0
    (rw c.in-Err-Site.field-0-is at c.in-Err-Site.ensures.told))

pub returns-in-Err-Map-clause-loaded : goal.returns-in-Err-Map-clause-loaded
returns-in-Err-Map-clause-loaded g c =
    rw c.in-Err-Map.field-0-is (refused_loads c.args.names.now _ _ _ _
    (rw c.in-Err-Map.field-0-is at c.in-Err-Map.ensures.told) (rw c.in-Err-Map.field-0-is at c.in-Err-Map.ensures.read))

pub returns-in-Err-NoMemory-clause-loaded : goal.returns-in-Err-NoMemory-clause-loaded
returns-in-Err-NoMemory-clause-loaded g c =
    starved_loads c.args.names.now _ _ _ (rw c.in-Err-NoMemory.field-0-is at c.in-Err-NoMemory.ensures.told)
