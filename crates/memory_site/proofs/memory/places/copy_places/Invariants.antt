use Rattle.std.proofs.Common.{◌≡◌, map, take}
use Rattle.memory_site.specs.Places.{name_and_file}
use Rattle.memory_site.proofs.memory.places.copy_places.Given as goal

abbrev pub invariant-loop-place : goal.invariant-loop-place
invariant-loop-place l = map name_and_file l.copied.items ≡ map name_and_file (take l.place-index l.places)
