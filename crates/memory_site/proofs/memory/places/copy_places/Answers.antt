use Rattle.std.proofs.Common.{◌∙◌, ap, map, arith}
use Rattle.std.proofs.lemmas.List.{take_all}
use Rattle.memory_site.specs.Places.{name_and_file}
use Rattle.memory_site.proofs.PlaceLemmas.{files_of-same}
use Rattle.memory_site.proofs.memory.places.copy_places.Goals as goal

pub returns : goal.returns
returns c = files_of-same c.loop-place.copied.items c.args.places.now
    (c.loop-place.invariant ∙ ap (map name_and_file) (take_all c.loop-place.place-index c.args.places.now (omega arith)))
