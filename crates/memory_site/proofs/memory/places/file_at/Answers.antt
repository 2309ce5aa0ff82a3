use Rattle.memory_site.proofs.PlaceLemmas.{file_found}
use Rattle.memory_site.proofs.memory.places.file_at.Goals as goal

pub returns : goal.returns
returns c = file_found c.args.places.now c.args.name.now c.in_ok-i.i c.index-places-i.result c.as_ref.result
    c.in_ok-i.ensures c.as_ref.ensures.value
