use Rattle.std.proofs.Common.{Bool, true, false, List, sym, subst}
use Rattle.crash_site.specs.Calls.{Call}
use Rattle.mapfile_save.specs.Saving.{Saves}
use Rattle.rescue_rules.specs.Snapshots.{snapshot_with}
use Rattle.fill_generate.specs.SweepState.{SweepState}
use Rattle.fill_generate.proofs.EndPieceLemmas.{save_if, saves_named}
use Rattle.fill_generate.proofs.sweeping.Sweeping.save_due.Goals as goal

pub returns-then-due-clause-call : goal.returns-then-due-clause-call
returns-then-due-clause-call g c =
    let i = c.self.inside in
    let old = g.D.Site.state c.args.site.now in
    let new = g.D.Site.state c.save.new.site in
    subst (λ (due : Bool). Saves (save_if c.args.self.now due) false c.save.result old new) (sym c.if-due.true)
    (subst (λ (r : SweepState). Saves (save_if r true) false c.save.result old new) c.self.view_is
    (subst (λ (calls : List Call). Saves calls false c.save.result old new)
    (saves_named i.keeper (snapshot_with (g.T.Tiles.statuses i.tiles) i.keeper.tally) c.self.invariant.2)
    c.save.ensures.call))
