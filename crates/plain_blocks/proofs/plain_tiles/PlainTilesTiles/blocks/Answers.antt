use Rattle.std.proofs.Common.{ap, sym, ◌∙◌, ◌≡◌, length, arith}
use Rattle.plain_blocks.proofs.TilingLemmas.{stretches_of_tiling}
use Rattle.plain_blocks.proofs.plain_tiles.PlainTilesTiles.blocks.Goals as goal

pub returns : goal.returns
returns c =
    let n : c.len.result ≡ length c.self.inside.blocks.items = omega arith in
    rw (← c.self.view_is) (n ∙ ap length (sym (stretches_of_tiling _ c.self.invariant)))
