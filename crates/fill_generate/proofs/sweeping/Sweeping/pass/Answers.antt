use Rattle.std.proofs.Common.{◌+◌, ap, ◌∙◌}
use Rattle.mapfile_text.specs.declared.state.Current.{Current}
use Rattle.fill_generate.specs.Modes.{current_in}
use Rattle.fill_generate.specs.SweepState.{SweepState, state_at, sweep_at, standing, moved}
use Rattle.rescue_core.specs.declared.keeper.Keeper.{Keeper}
use Rattle.fill_generate.proofs.sweeping.Sweeping.pass.Goals as goal

pub returns-clause-moved : goal.returns-clause-moved
returns-clause-moved g c =
    let i = c.self.inside in
    let map = g.T.Tiles.statuses i.tiles in
    let p = c.args.piece in
    let r : SweepState = state_at i.settings i.domain map i.mode i.cursor i.keeper in
    ap (λ (k : Keeper). state_at i.settings i.domain map i.mode (p.pos + p.len) k) c.pass_event.ensures.stands
    ∙ ap (λ (k : Current). standing r (moved k (sweep_at map i.cursor i.keeper.tally) p.pos p.len c.args.written c.args.after))
    c.current.ensures
    ∙ ap (λ (q : SweepState). standing q (moved (current_in q.mode) q.sweep p.pos p.len c.args.written c.args.after)) c.self.view_is
