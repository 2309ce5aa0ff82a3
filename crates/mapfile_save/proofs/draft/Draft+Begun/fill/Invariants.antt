-- Some pieces are in the draft, and the rest is left of the text.
use Rattle.std.proofs.Common.{length}
use Rattle.mapfile_text.specs.Printed.{printed}
use Rattle.mapfile_text.specs.LeftOf.{left_of}
use Rattle.mapfile_save.proofs.FillLemmas.{PartlyFilled}
use Rattle.mapfile_save.proofs.draft.Draft+Begun.fill.Given as goal

abbrev pub invariant-loop-state : goal.invariant-loop-state
invariant-loop-state g l =
    PartlyFilled (printed l.heading l.state (g.T.Tiles.statuses l.tiles)) (left_of l.printer l.heading l.state (g.T.Tiles.statuses l.tiles))
    (g.D.Site.state l.fn.site) (g.D.Site.state l.site)

abbrev pub decreases-loop-state : goal.decreases-loop-state
decreases-loop-state g l = length (left_of l.printer l.heading l.state (g.T.Tiles.statuses l.tiles))
