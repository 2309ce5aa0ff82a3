-- By what came of the load.
use Rattle.std.proofs.Common.{refl}
use Rattle.plan_source.specs.declared.loss.PlanLoss.TheVariants.{Memory}
use Rattle.rescue_plan.specs.declared.run.PlanEnd.TheVariants.{Lost}
use Rattle.ddrescueplan_words.specs.Command.{told_by}
use Rattle.ddrescueplan_cli.proofs.WorkedLemmas.{put_worked, refused_worked, starved_first}
use Rattle.ddrescueplan_cli.proofs.plan.run.Goals as goal

pub returns-in-Ok-make_rescue : goal.returns-in-Ok-make_rescue
returns-in-Ok-make_rescue g c = λ words.
    let k = told_by c.args.command.now in
    let loaded = c.in-Ok.ensures in
    rw c.ended.ensures
    (put_worked k words _ _ loaded.stays _ _ c.in-Ok.map c.put_plan-end.result loaded.told loaded.read loaded.counts
    (c.put_plan-end.ensures.puts k c.requires refl c.in-Ok-make_rescue.ensures))

pub returns-in-Err-make_rescue : goal.returns-in-Err-make_rescue
returns-in-Err-make_rescue g c = λ words.
    let k = told_by c.args.command.now in
    let loaded = c.in-Ok.ensures in
    put_worked k words _ _ loaded.stays _ _ c.in-Ok.map (Lost Memory) loaded.told loaded.read loaded.counts
    (starved_first k c.in-Ok.map.tiles.statuses _)

pub returns-in-Err : goal.returns-in-Err
returns-in-Err g c = λ words.
    let failed = c.in-Err.ensures in
    rw c.refused.ensures
    (refused_worked (told_by c.args.command.now) words _ _ failed.stays _ c.in-Err.fault failed.told failed.read
    failed.counts)
