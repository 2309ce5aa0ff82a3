-- What the read of a map answers, by what the load of it answered.
use Rattle.mapfile_resume.specs.Named.{map_mode}
use Rattle.task_files.proofs.MapReadLemmas.{named_read, named_stopped, named_cause, unnamed}
use Rattle.task_files.proofs.maps.read_named.Goals as goal

pub returns-in_default-clause-told : goal.returns-in_default-clause-told
returns-in_default-clause-told g c = rw c.in_default.is (unnamed c.args.which (map_mode c.args.loose) _)

pub returns-in-Ok-clause-told : goal.returns-in-Ok-clause-told
returns-in-Ok-clause-told g c = rw c.in-Some.is (named_read c.args.which (map_mode c.args.loose) c.in-Some.name.now _ _ _
    c.in-Ok.ensures.told c.in-Ok.ensures.read)

pub returns-in-Err-clause-told : goal.returns-in-Err-clause-told
returns-in-Err-clause-told g c = rw (c.in-Some.is, c.refusal.ensures)
    (named_stopped c.args.which (map_mode c.args.loose) c.in-Some.name.now c.in-Err.fault _ _ c.in-Err.ensures.told
    c.in-Err.ensures.read)

pub returns-in-Err-clause-cause : goal.returns-in-Err-clause-cause
returns-in-Err-clause-cause g c = rw c.refusal.ensures (named_cause c.args.which c.in-Err.fault _ _ c.in-Err.ensures.counts)
