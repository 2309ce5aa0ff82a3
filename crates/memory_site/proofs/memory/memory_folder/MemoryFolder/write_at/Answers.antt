use Rattle.std.proofs.Common.{ap, sym, ◌∙◌, Option, Some}
use Rattle.crash_site.specs.Files.{File, written_file}
use Rattle.memory_site.proofs.PlaceLemmas.{file_stood, file_changed}
use Rattle.memory_site.proofs.StopLemmas.{on_ok}
use Rattle.memory_site.proofs.memory.memory_folder.MemoryFolder.write_at.Goals as goal

pub returns : goal.returns
returns c =
    let before = file_stood c.args.self.now.places.items c.place_of.new.places.items c.args.name.now c.in_ok-i.i
    c.index_mut.result.now c.in_ok-i.ensures.place c.in_ok-i.ensures.files c.index_mut.ensures.value in
    on_ok c.write.result
    (λ wrote. file_changed c.args.self.now.places.items c.place_of.new.places.items c.args.name.now c.in_ok-i.i
    c.index_mut.result.now c.write.new.self _ c.in_ok-i.ensures.place c.in_ok-i.ensures.files
    c.index_mut.ensures.value c.write.ensures.name
    (wrote ∙ ap (λ (o : Option File). Some (written_file o c.args.pos c.args.piece.now)) (sym before)))
    c.write.ensures.written
