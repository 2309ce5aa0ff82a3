use Rattle.std.proofs.Common.{◌≡◌, None, OnOk, OnErr, refl, sym, ap, subst, ◌∙◌, List, ℕ, is_some}
use Rattle.memory_site.specs.declared.memory.memory_folder.MemoryFolder.{MemoryFolder}
use Rattle.crash_site.specs.Files.{put}
use Rattle.crash_site.specs.Calls.{draft_publish}
use Rattle.crash_site.specs.Folder.{Folder, after}
use Rattle.memory_site.specs.Follows.{Follows}
use Rattle.memory_site.specs.MemoryFolder.{name_of, folder_of}
use Rattle.memory_site.specs.CallLog.{entries_of}
use Rattle.memory_site.proofs.FollowLemmas.{follows_lost, follows_settled, publish_step, publish_kept, follows_no_draft}
use Rattle.std.proofs.lemmas.Result.{err_from_is_err_and}
use Rattle.memory_site.proofs.FailedLemmas.{failed_answers}
use Rattle.memory_site.proofs.SettledLemmas.{settled_answers}
use Rattle.memory_site.proofs.memory.MemorySiteSite.draft_publish.Goals as goal

pub invariant_of-self-in-Break-1 : goal.invariant_of-self-in-Break-1
invariant_of-self-in-Break-1 c =
    let shut : Folder = record (folder_of c.args.self.now.folder) { draft = name_of c.take.new.self } in
    let h : Follows shut (after (folder_of c.args.self.now.start) (entries_of c.args.self.now.log)) =
    follows_no_draft (folder_of c.args.self.now.folder) shut _ c.args.self.now.follows refl refl
    (ap name_of c.take.ensures.after) in
    record {
      follows = follows_lost (folder_of c.args.self.now.start) shut (folder_of c.enter.new.folder)
          (entries_of c.args.self.now.log) (entries_of c.enter.new.log) (draft_publish c.in-Ok.copied.items) tt h
          c.in_err-enter.ensures.missed;
    }

pub invariant_of-self-2 : goal.invariant_of-self-2
invariant_of-self-2 c =
    let told : Folder = after (folder_of c.args.self.now.start) (entries_of c.args.self.now.log) in
    let kept = c.in_ok-enter.ensures.kept in
    let outcome = c.rename-outcome.result in
    let moved = folder_of c.rename-outcome.new.self in
    record {
      follows = follows_settled (folder_of c.args.self.now.start) (folder_of c.rename-outcome.new.self)
          (entries_of c.args.self.now.log) (entries_of c.enter.new.log) (entries_of c.settle.new.self)
          (draft_publish c.in-Ok.copied.items) c.rename-outcome.result c.settle.result c.in_ok-enter.ensures.done
          (publish_step c.rename-outcome.result (folder_of c.args.self.now.folder)
          (folder_of c.rename-outcome.new.self) told c.in-Some.draft.items c.as_slice.result.now
          c.as_bytes-name.result.now c.in-Ok.copied.items c.as_slice.ensures.value c.in-Ok.ensures.items
          c.args.self.now.follows (ap name_of (sym c.in-Some.ensures.value)) (subst (λ (k : MemoryFolder). OnOk outcome
          (moved.files ≡ put (put (folder_of k).files c.as_slice.result.now None) c.as_bytes-name.result.now
          ((folder_of k).files c.as_slice.result.now))) kept c.rename-outcome.ensures.files)
          (c.rename-outcome.ensures.image ∙ ap (λ (k : MemoryFolder). (folder_of k).image) kept)
          (c.rename-outcome.ensures.draft
          ∙ ap (λ (k : MemoryFolder). (folder_of k).draft) kept
          ∙ ap name_of c.take.ensures.after))
          (publish_kept c.rename-outcome.result (folder_of c.args.self.now.folder)
          (folder_of c.rename-outcome.new.self) told c.args.self.now.follows
          (subst (λ (k : MemoryFolder). OnErr outcome (moved.files ≡ (folder_of k).files)) kept
          c.rename-outcome.ensures.same)
          (c.rename-outcome.ensures.image ∙ ap (λ (k : MemoryFolder). (folder_of k).image) kept)
          (c.rename-outcome.ensures.draft
          ∙ ap (λ (k : MemoryFolder). (folder_of k).draft) kept
          ∙ ap name_of c.take.ensures.after))
          c.settle.ensures.value c.settle.ensures.error c.settle.ensures.kept c.settle.ensures.withdrawn;
    }

pub returns-in_err-enter : goal.returns-in_err-enter
returns-in_err-enter c =
    let failed = err_from_is_err_and c.from_residual.result c.from_residual.ensures.1 in
    failed_answers c.from_residual.result failed.0 _ _ (draft_publish c.in-Ok.copied.items)
    (draft_publish c.args.name.now) failed.1
    (ap (λ (z : List ℕ). draft_publish z) (c.in-Ok.ensures.items ∙ c.as_bytes-name.ensures.value))
    (record { tells = refl; start = λ _. refl; scheduled = refl; later = c.enter.ensures.cause.later })
    c.in_err-enter.ensures.lost c.in_err-enter.ensures.cause.failed (ap is_some c.enter.ensures.image)
    (ap is_some (c.enter.ensures.draft ∙ ap name_of c.take.ensures.after)) c.enter.ensures.schedule
    c.in_err-enter.ensures.told

pub returns : goal.returns
returns c =
    settled_answers c.settle.result c.enter.result _ _ _ c.enter.new.log (draft_publish c.in-Ok.copied.items)
    (draft_publish c.args.name.now) c.in_ok-enter.was
    (ap (λ (z : List ℕ). draft_publish z) (c.in-Ok.ensures.items ∙ c.as_bytes-name.ensures.value))
    refl refl refl c.in_ok-enter.ensures.done c.enter.ensures.cause c.enter.ensures.fed c.enter.ensures.schedule
    c.enter.ensures.fails c.settle.ensures.kept c.settle.ensures.withdrawn c.settle.ensures.cause
    c.settle.ensures.schedule c.settle.ensures.why c.settle.ensures.fed
    (ap is_some (c.rename-outcome.ensures.image ∙ ap (λ (m : MemoryFolder). (folder_of m).image)
    c.in_ok-enter.ensures.kept))
    (ap is_some (c.rename-outcome.ensures.draft ∙ ap (λ (m : MemoryFolder). (folder_of m).draft)
    c.in_ok-enter.ensures.kept
    ∙ ap name_of c.take.ensures.after))
