-- By what the load of it answered.
use Rattle.mapfile_resume.specs.Named.{map_mode}
use Rattle.ddrescueshow_cli.proofs.LoadLemmas.{map_read, map_stopped, stop_cause}
use Rattle.ddrescueshow_cli.proofs.load.read_map.Goals as goal

pub returns-in-Ok-clause-told : goal.returns-in-Ok-clause-told
returns-in-Ok-clause-told g c =
    map_read c.args.which (map_mode c.args.loose) c.args.name.now _ _ _ c.in-Ok.ensures.told c.in-Ok.ensures.read

pub returns-in-Err-clause-told : goal.returns-in-Err-clause-told
returns-in-Err-clause-told g c =
    rw c.refused.ensures
    (map_stopped c.args.which (map_mode c.args.loose) c.args.name.now c.in-Err.fault _ _ c.in-Err.ensures.told
    c.in-Err.ensures.read)

pub returns-in-Err-clause-cause : goal.returns-in-Err-clause-cause
returns-in-Err-clause-cause g c =
    rw c.refused.ensures (stop_cause c.args.which c.in-Err.fault _ _ c.in-Err.ensures.counts)
