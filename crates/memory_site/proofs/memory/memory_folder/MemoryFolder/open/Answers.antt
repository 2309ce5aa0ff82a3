use Rattle.std.proofs.Common.{refl, sym, ap, ◌∙◌, cond, List, ℕ, Option, Some, None}
use Rattle.crash_site.specs.declared.site.ImageKind.{ImageKind}
use Rattle.crash_site.specs.Files.{File}
use Rattle.crash_site.specs.FileAnswers.{kind_of, is_absent}
use Rattle.memory_site.specs.Places.{opened_file}
use Rattle.memory_site.specs.MemoryFolder.{folder_of}
use Rattle.memory_site.proofs.PlaceLemmas.{file_stood, file_changed}
use Rattle.memory_site.proofs.FolderLemmas.{opened_is}
use Rattle.memory_site.proofs.memory.memory_folder.MemoryFolder.open.Goals as goal

pub returns-clause-kind : goal.returns-clause-kind
returns-clause-kind c =
    let before = file_stood c.args.self.now.places.items c.place_of.new.places.items c.args.name.now c.in_ok-i.i
    c.index_mut.result.now c.in_ok-i.ensures.place c.in_ok-i.ensures.files c.index_mut.ensures.value in
    c.open-kind.ensures.kind ∙ ap (λ (o : Option File). kind_of o c.args.make) (sym before)

pub returns-clause-opened : goal.returns-clause-opened
returns-clause-opened c =
    let before = file_stood c.args.self.now.places.items c.place_of.new.places.items c.args.name.now c.in_ok-i.i
    c.index_mut.result.now c.in_ok-i.ensures.place c.in_ok-i.ensures.files c.index_mut.ensures.value in
    opened_is (folder_of c.args.self.now) _ c.args.name.now c.args.make
    (file_changed c.args.self.now.places.items c.place_of.new.places.items c.args.name.now c.in_ok-i.i
    c.index_mut.result.now c.open-kind.new.self _ c.in_ok-i.ensures.place c.in_ok-i.ensures.files
    c.index_mut.ensures.value c.open-kind.ensures.name
    (c.open-kind.ensures.file ∙ ap (λ (o : Option File). opened_file o c.args.make) (sym before)))
    (c.opened_name.ensures
    ∙ ap (λ (l : List ℕ). cond (is_absent c.open-kind.result) None (Some l)) c.in_ok-opened.ensures.items
    ∙ ap (λ (k : ImageKind). cond (is_absent k) None (Some c.args.name.now))
    (c.open-kind.ensures.kind ∙ ap (λ (o : Option File). kind_of o c.args.make) (sym before)))
    refl
