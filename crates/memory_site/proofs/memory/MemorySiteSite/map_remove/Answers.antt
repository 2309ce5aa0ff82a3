use Rattle.std.proofs.Common.{sym, ap, ◌∙◌, subst, List, ℕ, refl, is_some, Err, inr}
use Rattle.crash_site.specs.Calls.{map_remove}
use Rattle.crash_site.specs.Folder.{Folder, after, after_done}
use Rattle.memory_site.specs.Follows.{Follows}
use Rattle.memory_site.specs.MemoryFolder.{folder_of}
use Rattle.memory_site.specs.CallLog.{entries_of}
use Rattle.memory_site.proofs.FollowLemmas.{follows_lost, follows_done, follows_as, follows_removed}
use Rattle.std.proofs.lemmas.Result.{err_from_is_err_and}
use Rattle.memory_site.proofs.FailedLemmas.{failed_answers}
use Rattle.memory_site.proofs.memory.MemorySiteSite.map_remove.Goals as goal

pub invariant_of-self-in-Break-1 : goal.invariant_of-self-in-Break-1
invariant_of-self-in-Break-1 c =
    record {
      follows = follows_lost (folder_of c.args.self.now.start) (folder_of c.args.self.now.folder)
          (folder_of c.enter.new.folder) (entries_of c.args.self.now.log) (entries_of c.enter.new.log)
          (map_remove c.in-Ok.copied.items) tt c.args.self.now.follows c.in_err-enter.ensures.missed;
    }

pub invariant_of-self-2 : goal.invariant_of-self-2
invariant_of-self-2 c =
    let told : Folder = after (folder_of c.args.self.now.start) (entries_of c.args.self.now.log) in
    let h = follows_as c.args.self.now.folder c.enter.new.folder told c.in_ok-enter.ensures.kept
    c.args.self.now.follows in
    record {
      follows = follows_done (folder_of c.args.self.now.start) (folder_of c.remove.new.self)
          (entries_of c.args.self.now.log) (entries_of c.enter.new.log)
          (map_remove c.in-Ok.copied.items) c.in_ok-enter.ensures.done
          (subst (λ (d : Folder). Follows d (after_done told (map_remove c.in-Ok.copied.items)))
          (sym (c.remove.ensures
          ∙ ap (λ (z : List ℕ). after_done (folder_of c.enter.new.folder) (map_remove z))
          (sym c.in-Ok.ensures.items)))
          (follows_removed (folder_of c.enter.new.folder) told c.in-Ok.copied.items h));
    }

pub returns-in_err-enter : goal.returns-in_err-enter
returns-in_err-enter c =
    let failed = err_from_is_err_and c.from_residual.result c.from_residual.ensures.1 in
    failed_answers c.from_residual.result failed.0 _ _ (map_remove c.in-Ok.copied.items) (map_remove c.args.name.now)
    failed.1
    (ap (λ (z : List ℕ). map_remove z) (c.in-Ok.ensures.items ∙ c.as_bytes-name.ensures.value))
    (record { tells = refl; start = λ _. refl; scheduled = refl; later = c.enter.ensures.cause.later })
    c.in_err-enter.ensures.lost c.in_err-enter.ensures.cause.failed (ap is_some c.enter.ensures.image)
    (ap is_some c.enter.ensures.draft) c.enter.ensures.schedule c.in_err-enter.ensures.told

pub returns-in_default : goal.returns-in_default
returns-in_default c =
    failed_answers (Err c.miss.result) c.miss.result _ _ _ _ refl refl
    (record { tells = refl; start = λ _. refl; scheduled = refl; later = c.miss.ensures.later })
    (inr c.miss.ensures.entries) c.miss.ensures.faults refl refl c.miss.ensures.schedule
    (inr (c.miss.ensures.starving, c.miss.ensures.entries))
