-- By whether one is named, and what came of its read.
use Rattle.mapfile_resume.specs.Named.{map_mode}
use Rattle.ddrescueshow_cli.proofs.LoadLemmas.{named_read, named_stopped, unnamed}
use Rattle.ddrescueshow_cli.proofs.load.read_named.Goals as goal

pub returns-in_default-clause-told : goal.returns-in_default-clause-told
returns-in_default-clause-told g c = rw c.in_default.is (unnamed c.args.which (map_mode c.args.loose) _)

pub returns-in-Ok-clause-told : goal.returns-in-Ok-clause-told
returns-in-Ok-clause-told g c =
    rw c.in-Some.is
    (named_read c.args.which (map_mode c.args.loose) c.in-Some.name.now _ _ _ c.in-Ok.ensures.told)

pub returns-in-Err-clause-told : goal.returns-in-Err-clause-told
returns-in-Err-clause-told g c =
    rw c.in-Some.is
    (named_stopped c.args.which (map_mode c.args.loose) c.in-Some.name.now _ _ _ c.in-Err.ensures.told)
