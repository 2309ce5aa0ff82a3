use Rattle.std.proofs.Common.{refl, List, ℕ, None, ap, ◌∙◌, is_some, Err, inr}
use Rattle.memory_site.specs.declared.memory.memory_folder.MemoryFolder.{MemoryFolder}
use Rattle.crash_site.specs.Calls.{image_open}
use Rattle.crash_site.specs.Folder.{Folder, after}
use Rattle.memory_site.specs.Follows.{Follows}
use Rattle.memory_site.specs.MemoryFolder.{folder_of}
use Rattle.memory_site.specs.CallLog.{entries_of}
use Rattle.memory_site.proofs.FollowLemmas.{follows_lost, follows_settled, follows_step, follows_kept, follows_as, follows_opened, follows_no_image}
use Rattle.std.proofs.lemmas.Result.{err_from_is_err_and}
use Rattle.memory_site.proofs.FailedLemmas.{failed_answers}
use Rattle.memory_site.proofs.SettledLemmas.{opened_draft, settled_answers, stays}
use Rattle.memory_site.proofs.memory.MemorySiteSite.image_open.Goals as goal

pub invariant_of-self-in-Break-1 : goal.invariant_of-self-in-Break-1
invariant_of-self-in-Break-1 c =
    let shut : Folder = record (folder_of c.args.self.now.folder) { image = None } in
    let h : Follows shut (after (folder_of c.args.self.now.start) (entries_of c.args.self.now.log)) =
    follows_no_image (folder_of c.args.self.now.folder) shut _ c.args.self.now.follows refl refl refl in
    record {
      follows = follows_lost (folder_of c.args.self.now.start) shut (folder_of c.enter.new.folder)
          (entries_of c.args.self.now.log) (entries_of c.enter.new.log)
          (image_open c.in-Ok.copied.items c.args.make) tt h
          c.in_err-enter.ensures.missed;
    }

pub invariant_of-self-2 : goal.invariant_of-self-2
invariant_of-self-2 c =
    let shut : Folder = record (folder_of c.args.self.now.folder) { image = None } in
    let h : Follows shut (after (folder_of c.args.self.now.start) (entries_of c.args.self.now.log)) =
    follows_no_image (folder_of c.args.self.now.folder) shut _ c.args.self.now.follows refl refl refl in
    let told : Folder = after (folder_of c.args.self.now.start) (entries_of c.args.self.now.log) in
    let shut_memory : MemoryFolder = record c.args.self.now.folder { image = None } in
    let now = follows_as shut_memory c.enter.new.folder told c.in_ok-enter.ensures.kept h in
    record {
      follows = follows_settled (folder_of c.args.self.now.start) (folder_of c.open-outcome.new.self)
          (entries_of c.args.self.now.log) (entries_of c.enter.new.log) (entries_of c.settle.new.self)
          (image_open c.in-Ok.copied.items c.args.make) c.open-outcome.result c.settle.result c.in_ok-enter.ensures.done
          (follows_step c.open-outcome.result (folder_of c.enter.new.folder) (folder_of c.open-outcome.new.self) told
          (λ (z : List ℕ). image_open z c.args.make) c.as_bytes-name.result.now c.in-Ok.copied.items
          c.in-Ok.ensures.items (λ z. follows_opened (folder_of c.enter.new.folder) told z c.args.make now)
          c.open-outcome.ensures.opened)
          (follows_kept c.open-outcome.result (folder_of c.enter.new.folder)
          (folder_of c.open-outcome.new.self) told now c.open-outcome.ensures.same)
          c.settle.ensures.value c.settle.ensures.error c.settle.ensures.kept c.settle.ensures.withdrawn;
    }

pub returns-in_err-enter-clause-call : goal.returns-in_err-enter-clause-call
returns-in_err-enter-clause-call c =
    let failed = err_from_is_err_and c.from_residual.result c.from_residual.ensures.1 in
    failed_answers c.from_residual.result failed.0 _ _ (image_open c.in-Ok.copied.items c.args.make)
    (image_open c.args.name.now c.args.make) failed.1
    (ap (λ (z : List ℕ). image_open z c.args.make) (c.in-Ok.ensures.items ∙ c.as_bytes-name.ensures.value))
    (record { tells = refl; start = λ _. refl; scheduled = refl; later = c.enter.ensures.cause.later })
    c.in_err-enter.ensures.lost c.in_err-enter.ensures.cause.failed tt
    (ap is_some c.enter.ensures.draft) c.enter.ensures.schedule c.in_err-enter.ensures.told

pub returns-in_default-clause-call : goal.returns-in_default-clause-call
returns-in_default-clause-call c =
    failed_answers (Err c.miss.result) c.miss.result _ _ _ _ refl refl
    (record { tells = refl; start = λ _. refl; scheduled = refl; later = c.miss.ensures.later })
    (inr c.miss.ensures.entries) c.miss.ensures.faults tt refl c.miss.ensures.schedule
    (inr (c.miss.ensures.starving, c.miss.ensures.entries))

pub returns-clause-call : goal.returns-clause-call
returns-clause-call c =
    settled_answers c.settle.result c.enter.result _ _ _ c.enter.new.log (image_open c.in-Ok.copied.items c.args.make)
    (image_open c.args.name.now c.args.make) c.in_ok-enter.was
    (ap (λ (z : List ℕ). image_open z c.args.make) (c.in-Ok.ensures.items ∙ c.as_bytes-name.ensures.value))
    refl refl refl c.in_ok-enter.ensures.done c.enter.ensures.cause c.enter.ensures.fed c.enter.ensures.schedule
    c.enter.ensures.fails c.settle.ensures.kept c.settle.ensures.withdrawn c.settle.ensures.cause
    c.settle.ensures.schedule c.settle.ensures.why c.settle.ensures.fed
    tt
    (ap is_some (stays (λ (d : Folder). d.draft) c.open-outcome.result (folder_of c.enter.new.folder)
    (folder_of c.open-outcome.new.self) _ c.open-outcome.ensures.opened c.open-outcome.ensures.same
    (opened_draft (folder_of c.enter.new.folder) c.as_bytes-name.result.now c.args.make
    ((folder_of c.enter.new.folder).files c.as_bytes-name.result.now))
    ∙ ap (λ (m : MemoryFolder). (folder_of m).draft) c.in_ok-enter.ensures.kept))
