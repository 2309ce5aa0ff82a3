use Rattle.std.proofs.Common.{ap}
use Rattle.rescue_rules.specs.Passes.{Pass}
use Rattle.run_options.specs.declared.settings.Settings.{Settings}
use Rattle.rescue_core.specs.RunState.{setting_in}
use Rattle.rescue_core.proofs.TurnMarkLemmas.{part_map, nothing_map}
use Rattle.rescue_core.proofs.mark.mark.Goals as goal

pub returns-in-Part-clause-map : goal.returns-in-Part-clause-map
returns-in-Part-clause-map g c = λ r reading at is from cut.
    let map = part_map c.args.settings.now c.args.phase c.args.progress r reading (g.T.Tiles.statuses c.args.tiles.now)
    c.args.request.pos c.args.kept c.in-Part.landed c.in-Part.missed at is from cut c.in-Part.is in
    let rest = c.mark_missed.ensures.marked (setting_in r) r.machine (ap (λ (s : Settings). s.sector) at.settings_are)
    (ap (λ (p : Pass). p.phase) at.pass) in
    cc

pub returns-in-Nothing-clause-map : goal.returns-in-Nothing-clause-map
returns-in-Nothing-clause-map g c = λ r reading at is from cut.
    let map = nothing_map c.args.settings.now c.args.phase c.args.progress r reading (g.T.Tiles.statuses c.args.tiles.now)
    c.args.request.pos c.args.kept c.in-Nothing.missed at is from cut c.in-Nothing.is in
    let rest = c.mark_missed-in-Nothing.ensures.marked (setting_in r) r.machine (ap (λ (s : Settings). s.sector) at.settings_are)
    (ap (λ (p : Pass). p.phase) at.pass) in
    cc
