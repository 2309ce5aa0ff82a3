use Rattle.std.proofs.Common.{sym, None}
use Rattle.memory_site.specs.Places.{files_of}
use Rattle.memory_site.proofs.PlaceLemmas.{files_of-none, put-same, file_taken}
use Rattle.memory_site.proofs.memory.places.take_file.Goals as goal

pub returns-in_err-i-clause-files : goal.returns-in_err-i-clause-files
returns-in_err-i-clause-files c =
    let none = rw c.deref.ensures.value at c.in_err-i.ensures in
    sym (put-same (files_of c.args.places.now.items) c.args.name.now None
    (files_of-none c.args.places.now.items c.args.name.now none))

pub returns-clause-files : goal.returns-clause-files
returns-clause-files c =
    let place = rw c.deref.ensures.value at c.in_ok-i.ensures in
    file_taken c.args.places.now.items c.args.name.now c.in_ok-i.i c.index_mut.result.now c.take.new.self place
    c.index_mut.ensures.value c.take.ensures.after
