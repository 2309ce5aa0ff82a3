-- By what the load of the map answered.
use Rattle.std.proofs.Common.{refl, inl, inr}
use Rattle.ddrescuelog_cli.specs.declared.ending.LogEnding.TheVariants.{NoMap, MapRefused}
use Rattle.ddrescuelog_cli.proofs.LoadLemmas.{read_ok, read_refused, read_broke, read_starved}
use Rattle.ddrescuelog_cli.proofs.load.read_map.Goals as goal

pub returns-in-Ok-Some-clause-read : goal.returns-in-Ok-Some-clause-read
returns-in-Ok-Some-clause-read g c =
    read_ok c.args.which c.args.mode c.args.name.now c.in-Ok-Some.map _ _
    (λ t. rw c.in-Ok-Some.field-0-is at (c.in-Ok-Some.ensures.told t))
    (rw c.in-Ok-Some.field-0-is at c.in-Ok-Some.ensures.read)

pub returns-in-Ok-None-clause-read : goal.returns-in-Ok-None-clause-read
returns-in-Ok-None-clause-read g c =
    let of = rw c.in-Ok-None.field-0-is at c.in-Ok-None.ensures.read in
    read_refused c.args.which c.args.mode c.args.name.now (NoMap c.args.which) _ _
    (λ t. let l = rw c.in-Ok-None.field-0-is at (c.in-Ok-None.ensures.told t) in (inl (l.0, refl), l.1))
    (record { file = of.file; is_own = of.is_own; holds = inl (of.holds, refl) })

pub returns-in-Err-Site-clause-read : goal.returns-in-Err-Site-clause-read
returns-in-Err-Site-clause-read g c =
    read_broke c.args.which c.args.mode c.args.name.now _ _
    (λ t. let l = rw c.in-Err-Site.field-0-is at (c.in-Err-Site.ensures.told t) in l.1)

pub returns-in-Err-Map-clause-read : goal.returns-in-Err-Map-clause-read
returns-in-Err-Map-clause-read g c =
    let of = rw c.in-Err-Map.field-0-is at c.in-Err-Map.ensures.read in
    read_refused c.args.which c.args.mode c.args.name.now (MapRefused c.args.which c.in-Err-Map.error) _ _
    (λ t.
    let l = rw c.in-Err-Map.field-0-is at (c.in-Err-Map.ensures.told t) in
    (inr (c.in-Err-Map.error, l.0, refl), l.1))
    (record { file = of.file; is_own = of.is_own; holds = inr (c.in-Err-Map.error, of.holds, refl) })

pub returns-in-Err-NoMemory-clause-read : goal.returns-in-Err-NoMemory-clause-read
returns-in-Err-NoMemory-clause-read g c =
    read_starved c.args.which c.args.mode c.args.name.now _ _
    (λ t. rw c.in-Err-NoMemory.field-0-is at (c.in-Err-NoMemory.ensures.told t))
