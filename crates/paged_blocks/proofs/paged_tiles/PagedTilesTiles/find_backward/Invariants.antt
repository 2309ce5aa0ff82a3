use Rattle.paged_blocks.proofs.paged_tiles.PagedTilesTiles.find_backward.Given as goal

abbrev pub ghosts-find_backward_uncounted : goal.ghosts-find_backward_uncounted
ghosts-find_backward_uncounted a = record { name = a.blank.name; parts = a.blank.parts }
