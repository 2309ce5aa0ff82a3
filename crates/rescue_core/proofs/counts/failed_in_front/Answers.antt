use Rattle.std.proofs.Common.{sym, ◌∙◌}
use Rattle.rescue_core.specs.Counting.{failed_in}
use Rattle.rescue_core.proofs.CountsLemmas.{front_at, front_none}
use Rattle.rescue_core.proofs.counts.failed_in_front.Goals as goal

pub returns-then-x-gt0 : goal.returns-then-x-gt0
returns-then-x-gt0 g c = c.failed_at.ensures ∙ sym (front_at (failed_in c.args.live (g.T.Tiles.statuses c.args.tiles.now)) c.args.x c.if-x-gt0.true)

pub returns-else-x-gt0 : goal.returns-else-x-gt0
returns-else-x-gt0 g c = sym (front_none (failed_in c.args.live (g.T.Tiles.statuses c.args.tiles.now)) c.args.x c.if-x-gt0.false)
