-- By what the read answered.
use Rattle.std.proofs.Common.{rules}
use Rattle.crash_site.specs.declared.site.MapRead.TheVariants.{Bytes, Absent}
use Rattle.ddrescuelog_cli.proofs.LookLemmas.{asks_forced, answered, asks_free, asks_there, asks_broke}
use Rattle.ddrescuelog_cli.proofs.create.refuse_existing.Goals as goal

pub returns-then-forced-clause-asks : goal.returns-then-forced-clause-asks
returns-then-forced-clause-asks g c = asks_forced c.args.forced c.args.name.now tt _ c.if-forced.true

pub returns-in-Ok-Absent-clause-asks : goal.returns-in-Ok-Absent-clause-asks
returns-in-Ok-Absent-clause-asks g c =
    asks_free c.args.forced c.args.name.now tt _ _ c.if-forced.false
    (answered c.args.name.now Absent _ c.map_read.new.buf _ _ (search rules) c.in-Ok-Absent.ensures.call.keeps.start
    (rw c.in-Ok-Absent.field-0-is at c.in-Ok-Absent.ensures.call.done)
    (rw c.in-Ok-Absent.field-0-is at c.in-Ok-Absent.ensures.read))

pub returns-in-Ok-Bytes-clause-asks : goal.returns-in-Ok-Bytes-clause-asks
returns-in-Ok-Bytes-clause-asks g c =
    asks_there c.args.forced c.args.name.now c.in-Ok-Bytes.field-0-0 _ _ c.if-forced.false
    (answered c.args.name.now (Bytes c.in-Ok-Bytes.field-0-0) _ c.map_read.new.buf _ _ (search rules)
    c.in-Ok-Bytes.ensures.call.keeps.start
    (rw c.in-Ok-Bytes.field-0-is at c.in-Ok-Bytes.ensures.call.done)
    (rw c.in-Ok-Bytes.field-0-is at c.in-Ok-Bytes.ensures.read))

pub returns-in-Err-clause-asks : goal.returns-in-Err-clause-asks
returns-in-Err-clause-asks g c =
    asks_broke c.args.forced c.args.name.now _ _ _ c.if-forced.false (search rules) c.in-Err.ensures.call.keeps.start
    c.in-Err.ensures.call.lost
