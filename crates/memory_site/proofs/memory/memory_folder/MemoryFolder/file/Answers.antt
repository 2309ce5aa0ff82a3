use Rattle.crash_site.specs.Files.{File}
use Rattle.memory_site.proofs.memory.memory_folder.MemoryFolder.file.Goals as goal

pub returns-in-Some : goal.returns-in-Some
returns-in-Some c =
    let f : File = record { bytes = c.in-Some.file.now.bytes.items; regular = c.in-Some.file.now.regular } in
    (f, rw c.as_slice.ensures.value at c.in-Some.ensures, c.as_slice-in-Some.ensures.value)
