use Rattle.std.proofs.Common.{sym, ◌∙◌}
use Rattle.fill_generate.proofs.MarkLemmas.{marked_is, nothing_between}
use Rattle.fill_generate.proofs.mark.mark_range.Goals as goal

pub returns-then-from-to-clause-marked : goal.returns-then-from-to-clause-marked
returns-then-from-to-clause-marked g c =
    c.set.ensures.marked
    ∙ marked_is (g.T.Tiles.statuses c.args.tiles.now) c.args.from c.args.to c.requires.order c.requires.within

pub returns-else-from-to-clause-marked : goal.returns-else-from-to-clause-marked
returns-else-from-to-clause-marked g c =
    sym (nothing_between (g.T.Tiles.statuses c.args.tiles.now) c.args.from c.args.to c.if-from-to.false)
