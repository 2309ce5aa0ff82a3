use Rattle.std.proofs.Common.{◌∙◌, ap, min, arith}
use Rattle.plain_blocks.proofs.LookupLemmas.{last_of, none_of}
use Rattle.plain_blocks.proofs.TilingLemmas.{tiled_from_tiling, tiling_end}
use Rattle.plain_blocks.proofs.plain_tiles.PlainTilesTiles.find_backward.Goals as goal

pub last_with-requires-clause-tiled : goal.last_with-requires-clause-tiled
last_with-requires-clause-tiled c = tiled_from_tiling _ c.self.invariant

pub last_with-requires-clause-within : goal.last_with-requires-clause-within
last_with-requires-clause-within c =
    omega (arith, c.min.ensures, tiling_end _ c.self.invariant)

pub returns-clause-last : goal.returns-clause-last
returns-clause-last c =
    let e = c.min.ensures ∙ ap (λ n. min c.args.before n) (tiling_end _ c.self.invariant) in
    rw (← c.self.view_is) (last_of _ _ _ _ (rw e at c.last_with.ensures.last))

pub returns-clause-none : goal.returns-clause-none
returns-clause-none c =
    let e = c.min.ensures ∙ ap (λ n. min c.args.before n) (tiling_end _ c.self.invariant) in
    rw (← c.self.view_is) (none_of _ _ _ _ (rw e at c.last_with.ensures.none))
