use Rattle.rescue_core.proofs.ClosingLemmas.{saves_whole, saves_broken}
use Rattle.rescue_core.proofs.keeper.Keeper.save_last.Goals as goal

pub returns-in-Ok-clause-saves : goal.returns-in-Ok-clause-saves
returns-in-Ok-clause-saves g c =
    rw c.end_saved.ensures
    (saves_whole c.args.stop c.args.self (g.T.Tiles.statuses c.args.tiles.now) c.last_shown.result c.in-Ok.field-0 _ _
    c.last_shown.ensures c.in-Ok.ensures)

pub returns-clause-saves : goal.returns-clause-saves
returns-clause-saves g c =
    saves_broken c.args.stop c.args.self (g.T.Tiles.statuses c.args.tiles.now) c.last_shown.result c.in-Err.fault _ _
    c.last_shown.ensures c.requires.no_draft c.in-Err.ensures
