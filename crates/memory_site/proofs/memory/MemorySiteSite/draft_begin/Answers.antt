use Rattle.std.proofs.Common.{refl, List, ℕ, None, ap, ◌∙◌, is_some, Err, inr}
use Rattle.memory_site.specs.declared.memory.memory_folder.MemoryFolder.{MemoryFolder}
use Rattle.crash_site.specs.Calls.{draft_begin}
use Rattle.crash_site.specs.Folder.{Folder, after}
use Rattle.memory_site.specs.Follows.{Follows}
use Rattle.memory_site.specs.MemoryFolder.{folder_of}
use Rattle.memory_site.specs.CallLog.{entries_of}
use Rattle.memory_site.proofs.FollowLemmas.{follows_lost, follows_settled, follows_step, follows_kept, follows_as, follows_begun, follows_no_draft}
use Rattle.std.proofs.lemmas.Result.{err_from_is_err_and}
use Rattle.memory_site.proofs.FailedLemmas.{failed_answers}
use Rattle.memory_site.proofs.SettledLemmas.{begun_drafting, done_draft, settled_answers, stays}
use Rattle.memory_site.proofs.memory.MemorySiteSite.draft_begin.Goals as goal

pub invariant_of-self-in-Break-1 : goal.invariant_of-self-in-Break-1
invariant_of-self-in-Break-1 c =
    let shut : Folder = record (folder_of c.args.self.now.folder) { draft = None } in
    let h : Follows shut (after (folder_of c.args.self.now.start) (entries_of c.args.self.now.log)) =
    follows_no_draft (folder_of c.args.self.now.folder) shut _ c.args.self.now.follows refl refl refl in
    record {
      follows = follows_lost (folder_of c.args.self.now.start) shut (folder_of c.enter.new.folder)
          (entries_of c.args.self.now.log) (entries_of c.enter.new.log) (draft_begin c.in-Ok.copied.items) tt h
          c.in_err-enter.ensures.missed;
    }

pub invariant_of-self-2 : goal.invariant_of-self-2
invariant_of-self-2 c =
    let shut : Folder = record (folder_of c.args.self.now.folder) { draft = None } in
    let h : Follows shut (after (folder_of c.args.self.now.start) (entries_of c.args.self.now.log)) =
    follows_no_draft (folder_of c.args.self.now.folder) shut _ c.args.self.now.follows refl refl refl in
    let told : Folder = after (folder_of c.args.self.now.start) (entries_of c.args.self.now.log) in
    let shut_memory : MemoryFolder = record c.args.self.now.folder { draft = None } in
    let now = follows_as shut_memory c.enter.new.folder told c.in_ok-enter.ensures.kept h in
    record {
      follows = follows_settled (folder_of c.args.self.now.start) (folder_of c.begin-outcome.new.self)
          (entries_of c.args.self.now.log) (entries_of c.enter.new.log) (entries_of c.settle.new.self)
          (draft_begin c.in-Ok.copied.items) c.begin-outcome.result c.settle.result c.in_ok-enter.ensures.done
          (follows_step c.begin-outcome.result (folder_of c.enter.new.folder) (folder_of c.begin-outcome.new.self) told
          (λ (z : List ℕ). draft_begin z) c.as_bytes-name.result.now c.in-Ok.copied.items c.in-Ok.ensures.items
          (λ z. follows_begun (folder_of c.enter.new.folder) told z now) c.begin-outcome.ensures.begun)
          (follows_kept c.begin-outcome.result (folder_of c.enter.new.folder)
          (folder_of c.begin-outcome.new.self) told now c.begin-outcome.ensures.same)
          c.settle.ensures.value c.settle.ensures.error c.settle.ensures.kept c.settle.ensures.withdrawn;
    }

pub returns-in_err-enter : goal.returns-in_err-enter
returns-in_err-enter c =
    let failed = err_from_is_err_and c.from_residual.result c.from_residual.ensures.1 in
    failed_answers c.from_residual.result failed.0 _ _ (draft_begin c.in-Ok.copied.items) (draft_begin c.args.name.now)
    failed.1
    (ap (λ (z : List ℕ). draft_begin z) (c.in-Ok.ensures.items ∙ c.as_bytes-name.ensures.value))
    (record { tells = refl; start = λ _. refl; scheduled = refl; later = c.enter.ensures.cause.later })
    c.in_err-enter.ensures.lost c.in_err-enter.ensures.cause.failed (ap is_some c.enter.ensures.image)
    (ap is_some c.enter.ensures.draft) c.enter.ensures.schedule c.in_err-enter.ensures.told

pub returns-in_default : goal.returns-in_default
returns-in_default c =
    failed_answers (Err c.miss.result) c.miss.result _ _ _ _ refl refl
    (record { tells = refl; start = λ _. refl; scheduled = refl; later = c.miss.ensures.later })
    (inr c.miss.ensures.entries) c.miss.ensures.faults refl refl c.miss.ensures.schedule
    (inr (c.miss.ensures.starving, c.miss.ensures.entries))

pub returns : goal.returns
returns c =
    settled_answers c.settle.result c.enter.result _ _ _ c.enter.new.log (draft_begin c.in-Ok.copied.items)
    (draft_begin c.args.name.now) c.in_ok-enter.was
    (ap (λ (z : List ℕ). draft_begin z) (c.in-Ok.ensures.items ∙ c.as_bytes-name.ensures.value))
    refl refl refl c.in_ok-enter.ensures.done c.enter.ensures.cause c.enter.ensures.fed c.enter.ensures.schedule
    c.enter.ensures.fails c.settle.ensures.kept c.settle.ensures.withdrawn c.settle.ensures.cause
    c.settle.ensures.schedule c.settle.ensures.why c.settle.ensures.fed
    (ap is_some (stays (λ (d : Folder). d.image) c.begin-outcome.result (folder_of c.enter.new.folder)
    (folder_of c.begin-outcome.new.self) _ c.begin-outcome.ensures.begun c.begin-outcome.ensures.same refl
    ∙ ap (λ (m : MemoryFolder). (folder_of m).image) c.in_ok-enter.ensures.kept))
    (begun_drafting c.settle.result c.begin-outcome.result (folder_of c.enter.new.folder)
    (folder_of c.begin-outcome.new.self)
    c.as_bytes-name.result.now c.settle.ensures.value c.settle.ensures.error
    (done_draft c.begin-outcome.result _ _ c.begin-outcome.ensures.begun) c.begin-outcome.ensures.same
    (ap (λ (m : MemoryFolder). (folder_of m).draft) c.in_ok-enter.ensures.kept))
