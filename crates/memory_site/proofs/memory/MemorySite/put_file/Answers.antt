use Rattle.std.proofs.Common.{ap, ◌∙◌, List, ℕ, Option, Some}
use Rattle.crash_site.specs.Files.{File, put}
use Rattle.crash_site.specs.Calls.{Entry}
use Rattle.crash_site.specs.Folder.{Folder, after}
use Rattle.memory_site.specs.MemoryFolder.{folder_of}
use Rattle.memory_site.proofs.memory.MemorySite.put_file.Goals as goal

pub returns-clause-files : goal.returns-clause-files
returns-clause-files c = λ n.
    let file : File = record { bytes = c.args.bytes.now; regular = c.args.regular } in
    ap (λ (es : List Entry). (after (folder_of c.in_ok-start.start) es).files n) c.forget.ensures.entries
    ∙ ap (λ (d : Folder). d.files n) c.in_ok-start.ensures.same
    ∙ ap (λ (f : List ℕ → Option File). f n) c.in_ok-start.ensures.files
    ∙ ap (λ (k : List ℕ). put (folder_of c.args.self.now.folder).files k (Some file) n) c.as_bytes.ensures.value
    ∙ ap (λ (f : List ℕ → Option File). put f c.args.name.now (Some file) n) c.args.self.now.follows.files
