use Rattle.std.proofs.Common.{◌-◌, ◌^◌}
use Rattle.rescue_domain.specs.Domain.{finished_in}
use Rattle.rescue_domain.specs.Parts.{covers}
use Rattle.rescue_domain.proofs.MadeLemmas.{IsMade}
use Rattle.rescue_domain.proofs.domain.finished_parts.Given as goal

abbrev pub invariant-loop-range : goal.invariant-loop-range
invariant-loop-range g l = IsMade (finished_in (covers l.domain) (g.T.Tiles.statuses l.tiles)) l.parts.items l.at

abbrev pub decreases-loop-range : goal.decreases-loop-range
decreases-loop-range g l = 2 ^ 64 - l.at
