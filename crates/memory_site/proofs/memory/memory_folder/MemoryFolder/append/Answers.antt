use Rattle.std.proofs.Common.{refl, sym, ap, ◌∙◌, ◌++◌, true, Option, Some}
use Rattle.crash_site.specs.Files.{File, bytes_of}
use Rattle.memory_site.specs.MemoryFolder.{name_of, folder_of}
use Rattle.memory_site.proofs.PlaceLemmas.{file_stood, file_changed, file_unchanged}
use Rattle.memory_site.proofs.FolderLemmas.{same_folder, appended_is, on_err}
use Rattle.memory_site.proofs.memory.memory_folder.MemoryFolder.append.Goals as goal

pub returns-in_err-append-clause-same : goal.returns-in_err-append-clause-same
returns-in_err-append-clause-same c =
    let place = rw c.as_slice.ensures.value at c.in_ok-i.ensures.place in
    on_err c.from_residual-in_err-append.result (same_folder _ _
    (file_unchanged c.args.self.now.places.items c.place_of.new.places.items c.in-Some.name.items c.in_ok-i.i
    c.index_mut.result.now c.append.new.self place c.in_ok-i.ensures.files c.index_mut.ensures.value
    c.append.ensures.name c.in_err-append.ensures.same)
    refl refl)

pub returns-clause-appended : goal.returns-clause-appended
returns-clause-appended c =
    let place = rw c.as_slice.ensures.value at c.in_ok-i.ensures.place in
    let before = file_stood c.args.self.now.places.items c.place_of.new.places.items c.in-Some.name.items c.in_ok-i.i
    c.index_mut.result.now place c.in_ok-i.ensures.files c.index_mut.ensures.value in
    appended_is (folder_of c.args.self.now) _ (name_of c.args.self.now.draft) c.in-Some.name.items c.args.piece.now
    (ap name_of c.in-Some.is)
    (file_changed c.args.self.now.places.items c.place_of.new.places.items c.in-Some.name.items c.in_ok-i.i
    c.index_mut.result.now c.append.new.self _ place c.in_ok-i.ensures.files c.index_mut.ensures.value
    c.append.ensures.name
    (c.in_ok-append.ensures.appended
    ∙ ap (λ (o : Option File). Some (record { bytes = bytes_of o ++ c.args.piece.now; regular = true }))
    (sym before)))
    refl refl
