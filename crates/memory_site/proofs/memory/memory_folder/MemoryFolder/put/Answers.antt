use Rattle.std.proofs.Common.{refl}
use Rattle.memory_site.proofs.PlaceLemmas.{file_changed}
use Rattle.memory_site.proofs.memory.memory_folder.MemoryFolder.put.Goals as goal

pub returns-clause-files : goal.returns-clause-files
returns-clause-files c =
    file_changed c.args.self.now.places.items c.place_of.new.places.items c.args.name.now c.in_ok-i.i c.index_mut.result.now
    _ _ c.in_ok-i.ensures.place c.in_ok-i.ensures.files c.index_mut.ensures.value refl refl
