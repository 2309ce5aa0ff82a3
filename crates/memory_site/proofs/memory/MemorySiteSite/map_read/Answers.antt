use Rattle.std.proofs.Common.{refl, length, Some, ap, sym, ◌∙◌, None, Option, List, ℕ, ◌≡◌, is_some, Err, inr}
use Rattle.crash_site.specs.Calls.{map_read}
use Rattle.memory_site.specs.MemoryFolder.{folder_of}
use Rattle.memory_site.specs.CallLog.{entries_of}
use Rattle.memory_site.proofs.FollowLemmas.{follows_entered}
use Rattle.std.specs.Result.{result_ok}
use Rattle.std.proofs.lemmas.Result.{err_from_is_err_and}
use Rattle.crash_site.specs.declared.site.MapRead.{MapRead}
use Rattle.memory_site.proofs.FailedLemmas.{failed_answers}
use Rattle.memory_site.proofs.memory.MemorySiteSite.map_read.Goals as goal

pub invariant_of-self-2 : goal.invariant_of-self-2
invariant_of-self-2 c =
    record {
      follows = follows_entered (folder_of c.args.self.now.start) c.args.self.now.folder c.enter.new.folder
          (entries_of c.args.self.now.log) (entries_of c.enter.new.log)
          (map_read c.in-Ok.copied.items c.args.pos (length c.args.buf.now) (Some c.read-answer.result)) c.enter.result
          (λ a. refl) tt c.args.self.now.follows c.enter.ensures.kept c.enter.ensures.done c.enter.ensures.missed;
    }

pub returns-in_err-enter-clause-call : goal.returns-in_err-enter-clause-call
returns-in_err-enter-clause-call c =
    let failed = err_from_is_err_and c.from_residual.result c.from_residual.ensures.1 in
    let none : None ≡ result_ok c.from_residual.result = sym (ap result_ok failed.1) in
    failed_answers c.from_residual.result failed.0 _ _
    (map_read c.in-Ok.copied.items c.args.pos (length c.args.buf.now) None)
    (map_read c.args.name.now c.args.pos (length c.args.buf.now) (result_ok c.from_residual.result)) failed.1
    (ap (λ (z : List ℕ). map_read z c.args.pos (length c.args.buf.now) None)
    (c.in-Ok.ensures.items ∙ c.as_bytes.ensures.value)
    ∙ ap (λ (z : Option MapRead). map_read c.args.name.now c.args.pos (length c.args.buf.now) z) none)
    (record { tells = refl; start = λ _. refl; scheduled = refl; later = c.enter.ensures.cause.later })
    c.in_err-enter.ensures.lost c.in_err-enter.ensures.cause.failed (ap is_some c.enter.ensures.image)
    (ap is_some c.enter.ensures.draft) c.enter.ensures.schedule c.in_err-enter.ensures.told

pub returns-in_default-clause-call : goal.returns-in_default-clause-call
returns-in_default-clause-call c =
    failed_answers (Err c.miss.result) c.miss.result _ _ _ _ refl refl
    (record { tells = refl; start = λ _. refl; scheduled = refl; later = c.miss.ensures.later })
    (inr c.miss.ensures.entries) c.miss.ensures.faults refl refl c.miss.ensures.schedule
    (inr (c.miss.ensures.starving, c.miss.ensures.entries))
