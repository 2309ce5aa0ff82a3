use Rattle.std.proofs.Common.{refl, sym, ap, ◌∙◌, Option, Some}
use Rattle.crash_site.specs.Files.{File, written_file}
use Rattle.memory_site.specs.MemoryFolder.{name_of, folder_of}
use Rattle.memory_site.proofs.PlaceLemmas.{file_stood, file_changed, file_unchanged}
use Rattle.memory_site.proofs.FolderLemmas.{same_folder, written_is, on_err}
use Rattle.memory_site.proofs.memory.memory_folder.MemoryFolder.write.Goals as goal

pub returns-in_err-write-clause-same : goal.returns-in_err-write-clause-same
returns-in_err-write-clause-same c =
    let place = rw c.as_slice.ensures.value at c.in_ok-i.ensures.place in
    on_err c.from_residual-in_err-write.result (same_folder _ _
    (file_unchanged c.args.self.now.places.items c.place_of.new.places.items c.in-Some.name.items c.in_ok-i.i
    c.index_mut.result.now c.write.new.self place c.in_ok-i.ensures.files c.index_mut.ensures.value
    c.write.ensures.name c.in_err-write.ensures.same)
    refl refl)

pub returns-clause-written : goal.returns-clause-written
returns-clause-written c =
    let place = rw c.as_slice.ensures.value at c.in_ok-i.ensures.place in
    let before = file_stood c.args.self.now.places.items c.place_of.new.places.items c.in-Some.name.items c.in_ok-i.i
    c.index_mut.result.now place c.in_ok-i.ensures.files c.index_mut.ensures.value in
    written_is (folder_of c.args.self.now) _ (name_of c.args.self.now.image) c.in-Some.name.items c.args.pos
    c.args.piece.now (ap name_of c.in-Some.is)
    (file_changed c.args.self.now.places.items c.place_of.new.places.items c.in-Some.name.items c.in_ok-i.i
    c.index_mut.result.now c.write.new.self _ place c.in_ok-i.ensures.files c.index_mut.ensures.value
    c.write.ensures.name
    (c.in_ok-write.ensures.written ∙ ap (λ (o : Option File). Some (written_file o c.args.pos c.args.piece.now))
    (sym before)))
    refl refl
