use Rattle.std.proofs.Common.{refl, ◌<◌, length, arith}
use Rattle.memory_site.proofs.PlaceLemmas.{file_moved}
use Rattle.memory_site.proofs.memory.memory_folder.MemoryFolder.rename.Goals as goal

pub index_mut-requires : goal.index_mut-requires
index_mut-requires c =
    let place = c.take_file-moved.ensures.kept c.args.to.now c.in_ok-i.i c.in_ok-i.ensures.place in
    let within : c.in_ok-i.i < length c.take_file-moved.new.places.items = place.within in
    omega (arith, c.take_file-moved.new.places.ok.0)

pub returns-clause-files : goal.returns-clause-files
returns-clause-files c =
    let place = c.take_file-moved.ensures.kept c.args.to.now c.in_ok-i.i c.in_ok-i.ensures.place in
    file_moved c.args.self.now.places.items c.place_of.new.places.items c.take_file-moved.new.places.items c.args.from.now
    c.args.to.now c.in_ok-i.i c.index_mut.result.now _ place c.in_ok-i.ensures.files c.take_file-moved.ensures.files
    c.index_mut.ensures.value refl c.take_file-moved.ensures.value
