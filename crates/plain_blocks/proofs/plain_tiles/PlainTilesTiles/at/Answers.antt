use Rattle.plain_blocks.proofs.plain_tiles.PlainTilesTiles.at.Goals as goal

pub returns : goal.returns
returns c = c.stretch_at.ensures.stretch.has _ c.stretch_at.ensures.begun c.stretch_at.ensures.holds
