use Rattle.std.proofs.Common.{◌∙◌, ◌≡◌, refl, List, ℕ, true, is_some, sym, subst, ap, Err, inr}
use Rattle.memory_site.specs.declared.memory.memory_folder.MemoryFolder.{MemoryFolder}
use Rattle.crash_site.specs.Calls.{image_write}
use Rattle.crash_site.specs.Folder.{Folder, after}
use Rattle.memory_site.specs.MemoryFolder.{folder_of}
use Rattle.memory_site.specs.CallLog.{entries_of}
use Rattle.memory_site.proofs.FollowLemmas.{follows_lost, follows_settled, follows_step, follows_kept, follows_as, follows_written}
use Rattle.std.proofs.lemmas.Result.{err_from_is_err_and}
use Rattle.memory_site.proofs.FailedLemmas.{failed_answers}
use Rattle.memory_site.proofs.SettledLemmas.{settled_answers, stays, written_draft, written_image}
use Rattle.memory_site.proofs.memory.MemorySiteSite.image_write.Goals as goal

pub invariant_of-self-in-Break-1 : goal.invariant_of-self-in-Break-1
invariant_of-self-in-Break-1 c =
    record {
      follows = follows_lost (folder_of c.args.self.now.start) (folder_of c.args.self.now.folder)
          (folder_of c.enter.new.folder) (entries_of c.args.self.now.log) (entries_of c.enter.new.log)
          (image_write c.args.pos c.in-Ok.copied.items) c.requires.opened c.args.self.now.follows
          c.in_err-enter.ensures.missed;
    }

pub invariant_of-self-2 : goal.invariant_of-self-2
invariant_of-self-2 c =
    let told : Folder = after (folder_of c.args.self.now.start) (entries_of c.args.self.now.log) in
    let h = follows_as c.args.self.now.folder c.enter.new.folder told c.in_ok-enter.ensures.kept
    c.args.self.now.follows in
    let some : is_some (folder_of c.enter.new.folder).image ≡ true =
    subst (λ (k : MemoryFolder). is_some (folder_of k).image ≡ true) (sym c.in_ok-enter.ensures.kept)
    c.requires.opened in
    record {
      follows = follows_settled (folder_of c.args.self.now.start) (folder_of c.write-outcome.new.self)
          (entries_of c.args.self.now.log) (entries_of c.enter.new.log) (entries_of c.settle.new.self)
          (image_write c.args.pos c.in-Ok.copied.items) c.write-outcome.result c.settle.result
          c.in_ok-enter.ensures.done
          (follows_step c.write-outcome.result (folder_of c.enter.new.folder)
          (folder_of c.write-outcome.new.self) told
          (λ (z : List ℕ). image_write c.args.pos z) c.args.piece.now c.in-Ok.copied.items c.in-Ok.ensures.items
          (λ z. follows_written (folder_of c.enter.new.folder) told c.args.pos z some h)
          c.write-outcome.ensures.written)
          (follows_kept c.write-outcome.result (folder_of c.enter.new.folder)
          (folder_of c.write-outcome.new.self) told h c.write-outcome.ensures.same)
          c.settle.ensures.value c.settle.ensures.error c.settle.ensures.kept c.settle.ensures.withdrawn;
    }

pub returns-in_err-enter : goal.returns-in_err-enter
returns-in_err-enter c =
    let failed = err_from_is_err_and c.from_residual.result c.from_residual.ensures.1 in
    failed_answers c.from_residual.result failed.0 _ _ (image_write c.args.pos c.in-Ok.copied.items)
    (image_write c.args.pos c.args.piece.now) failed.1
    (ap (λ (z : List ℕ). image_write c.args.pos z) c.in-Ok.ensures.items)
    (record { tells = refl; start = λ _. refl; scheduled = refl; later = c.enter.ensures.cause.later })
    c.in_err-enter.ensures.lost c.in_err-enter.ensures.cause.failed
    (ap is_some c.enter.ensures.image) (ap is_some c.enter.ensures.draft)
    c.enter.ensures.schedule c.in_err-enter.ensures.told

pub returns-in_default : goal.returns-in_default
returns-in_default c =
    failed_answers (Err c.miss.result) c.miss.result _ _ _ _ refl refl
    (record { tells = refl; start = λ _. refl; scheduled = refl; later = c.miss.ensures.later })
    (inr c.miss.ensures.entries) c.miss.ensures.faults refl refl c.miss.ensures.schedule
    (inr (c.miss.ensures.starving, c.miss.ensures.entries))

pub returns : goal.returns
returns c =
    settled_answers c.settle.result c.enter.result _ _ _ c.enter.new.log (image_write c.args.pos c.in-Ok.copied.items)
    (image_write c.args.pos c.args.piece.now) c.in_ok-enter.was
    (ap (λ (z : List ℕ). image_write c.args.pos z) c.in-Ok.ensures.items)
    refl refl refl c.in_ok-enter.ensures.done c.enter.ensures.cause c.enter.ensures.fed c.enter.ensures.schedule
    c.enter.ensures.fails c.settle.ensures.kept c.settle.ensures.withdrawn c.settle.ensures.cause
    c.settle.ensures.schedule c.settle.ensures.why c.settle.ensures.fed
    (ap is_some (stays (λ (d : Folder). d.image) c.write-outcome.result (folder_of c.enter.new.folder)
    (folder_of c.write-outcome.new.self) _ c.write-outcome.ensures.written c.write-outcome.ensures.same
    (written_image (folder_of c.enter.new.folder) (folder_of c.enter.new.folder).image c.args.pos c.args.piece.now)
    ∙ ap (λ (m : MemoryFolder). (folder_of m).image) c.in_ok-enter.ensures.kept))
    (ap is_some (stays (λ (d : Folder). d.draft) c.write-outcome.result (folder_of c.enter.new.folder)
    (folder_of c.write-outcome.new.self) _ c.write-outcome.ensures.written c.write-outcome.ensures.same
    (written_draft (folder_of c.enter.new.folder) (folder_of c.enter.new.folder).image c.args.pos c.args.piece.now)
    ∙ ap (λ (m : MemoryFolder). (folder_of m).draft) c.in_ok-enter.ensures.kept))
