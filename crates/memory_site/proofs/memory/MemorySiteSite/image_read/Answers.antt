use Rattle.std.proofs.Common.{refl, length, Some, ap, sym, None, Option, ℕ, ◌≡◌, is_some}
use Rattle.crash_site.specs.Calls.{image_read}
use Rattle.memory_site.specs.MemoryFolder.{folder_of}
use Rattle.memory_site.specs.CallLog.{entries_of}
use Rattle.memory_site.proofs.FollowLemmas.{follows_entered}
use Rattle.std.specs.Result.{result_ok}
use Rattle.std.proofs.lemmas.Result.{err_from_is_err_and}
use Rattle.memory_site.proofs.FailedLemmas.{failed_answers}
use Rattle.memory_site.proofs.memory.MemorySiteSite.image_read.Goals as goal

pub invariant_of-self : goal.invariant_of-self
invariant_of-self c =
    record {
      follows = follows_entered (folder_of c.args.self.now.start) c.args.self.now.folder c.enter.new.folder
          (entries_of c.args.self.now.log) (entries_of c.enter.new.log)
          (image_read c.args.pos (length c.args.buf.now) (Some c.read_image-given.result)) c.enter.result
          (λ a. refl) tt c.args.self.now.follows c.enter.ensures.kept c.enter.ensures.done c.enter.ensures.missed;
    }

pub returns-in_err-enter-clause-call : goal.returns-in_err-enter-clause-call
returns-in_err-enter-clause-call c =
    let failed = err_from_is_err_and c.from_residual.result c.from_residual.ensures.1 in
    let none : None ≡ result_ok c.from_residual.result = sym (ap result_ok failed.1) in
    failed_answers c.from_residual.result failed.0 _ _ (image_read c.args.pos (length c.args.buf.now) None)
    (image_read c.args.pos (length c.args.buf.now) (result_ok c.from_residual.result)) failed.1
    (ap (λ (z : Option ℕ). image_read c.args.pos (length c.args.buf.now) z) none)
    (record { tells = refl; start = λ _. refl; scheduled = refl; later = c.enter.ensures.cause.later })
    c.in_err-enter.ensures.lost c.in_err-enter.ensures.cause.failed (ap is_some c.enter.ensures.image)
    (ap is_some c.enter.ensures.draft) c.enter.ensures.schedule c.in_err-enter.ensures.told
