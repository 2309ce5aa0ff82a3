use Rattle.std.proofs.Common.{◌≡◌, length, arith}
use Rattle.std.proofs.lemmas.Option.{slice_get_within}
use Rattle.plain_blocks.proofs.TilingLemmas.{tiled_from_tiling, tiling_end}
use Rattle.plain_blocks.proofs.plain_tiles.PlainTilesTiles.find_forward.Goals as goal

pub first_with-requires-clause-tiled : goal.first_with-requires-clause-tiled
first_with-requires-clause-tiled c = tiled_from_tiling _ c.self.invariant

pub first_with-requires-clause-within : goal.first_with-requires-clause-within
first_with-requires-clause-within c = omega (arith, tiling_end _ c.self.invariant)

pub returns-else-from-self-clause-none : goal.returns-else-from-self-clause-none
returns-else-from-self-clause-none c =
    let e : c.self.inside.end ≡ length c.args.self.now.statuses = rw (← c.self.view_is) (tiling_end _ c.self.invariant) in
    λ x l h. omega (arith, e, slice_get_within c.args.self.now.statuses x c.args.status h)
