-- Extended, and then marked.
use Rattle.std.proofs.Common.{ℕ, ap, ◌∙◌, arith}
use Rattle.block_list.specs.Map.{extended}
use Rattle.partition_domain.proofs.MapLemmas.{map_marked, map_unmarked}
use Rattle.partition_domain.proofs.domain.mark.Goals as goal

pub returns-then-size-gt0 : goal.returns-then-size-gt0
returns-then-size-gt0 c =
    map_marked c.args.partition c.args.length c.args.tiles.now.statuses _ _ c.requires.empty
    (c.extend_to.ensures.extended ∙ ap (λ (n : ℕ). extended c.args.tiles.now.statuses n) c.max.ensures)
    c.set.ensures.marked

pub returns-else-size-gt0 : goal.returns-else-size-gt0
returns-else-size-gt0 c =
    map_unmarked c.args.partition c.args.length c.args.tiles.now.statuses _ c.requires.empty
    (omega (arith, c.if-size-gt0.false))
    (c.extend_to.ensures.extended ∙ ap (λ (n : ℕ). extended c.args.tiles.now.statuses n) c.max.ensures)
