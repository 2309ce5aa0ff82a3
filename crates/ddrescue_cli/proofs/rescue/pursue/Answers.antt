use Rattle.ddrescue_cli.proofs.rescue.pursue.Goals as goal

pub returns-in-Rescue-clause-worked : goal.returns-in-Rescue-clause-worked
returns-in-Rescue-clause-worked g c = rw c.in-Rescue.is c.rescue.ensures.worked

pub returns-in-Fill-clause-worked : goal.returns-in-Fill-clause-worked
returns-in-Fill-clause-worked g c = rw c.in-Fill.is c.fill.ensures.worked

pub returns-in-Generate-clause-worked : goal.returns-in-Generate-clause-worked
returns-in-Generate-clause-worked g c = rw c.in-Generate.is c.generate.ensures.worked

pub fill-requires-clause-named : goal.fill-requires-clause-named
fill-requires-clause-named g c = rw c.in-Fill.is at c.requires.named

pub generate-requires-clause-named : goal.generate-requires-clause-named
generate-requires-clause-named g c = rw c.in-Generate.is at c.requires.named
