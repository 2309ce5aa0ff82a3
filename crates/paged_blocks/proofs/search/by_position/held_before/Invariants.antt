use Rattle.paged_blocks.proofs.search.by_position.held_before.Given as goal

abbrev pub ghosts-held_uncounted : goal.ghosts-held_uncounted
ghosts-held_uncounted a = record { name = a.blank.name; parts = a.blank.parts }
