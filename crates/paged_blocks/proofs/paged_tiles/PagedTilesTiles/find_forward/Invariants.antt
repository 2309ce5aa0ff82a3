use Rattle.paged_blocks.proofs.paged_tiles.PagedTilesTiles.find_forward.Given as goal

abbrev pub ghosts-find_forward_uncounted : goal.ghosts-find_forward_uncounted
ghosts-find_forward_uncounted a = record { name = a.blank.name; parts = a.blank.parts }
