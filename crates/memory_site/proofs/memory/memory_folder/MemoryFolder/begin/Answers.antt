use Rattle.std.proofs.Common.{refl, ap, List, ℕ, Some}
use Rattle.memory_site.proofs.PlaceLemmas.{file_changed}
use Rattle.memory_site.proofs.FolderLemmas.{same_folder}
use Rattle.memory_site.proofs.memory.memory_folder.MemoryFolder.begin.Goals as goal

pub returns-clause-begun : goal.returns-clause-begun
returns-clause-begun c =
    same_folder _ _
    (file_changed c.args.self.now.places.items c.place_of.new.places.items c.args.name.now c.in_ok-i.i
    c.index_mut.result.now c.empty.new.self _ c.in_ok-i.ensures.place c.in_ok-i.ensures.files
    c.index_mut.ensures.value c.empty.ensures.name c.empty.ensures.file)
    refl
    (ap (λ (l : List ℕ). Some l) c.in_ok-begun.ensures.items)
