use Rattle.std.proofs.Common.{refl, Err, inr}
use Rattle.crash_site.specs.Calls.{map_settle}
use Rattle.memory_site.specs.MemoryFolder.{folder_of}
use Rattle.memory_site.specs.CallLog.{entries_of}
use Rattle.memory_site.proofs.FollowLemmas.{follows_entered}
use Rattle.memory_site.proofs.FailedLemmas.{failed_answers}
use Rattle.memory_site.proofs.memory.MemorySiteSite.map_settle.Goals as goal

pub invariant_of-self-2 : goal.invariant_of-self-2
invariant_of-self-2 c =
    record {
      follows = follows_entered (folder_of c.args.self.now.start) c.args.self.now.folder c.enter.new.folder
          (entries_of c.args.self.now.log) (entries_of c.enter.new.log) (map_settle c.in-Ok.copied.items) c.enter.result
          (λ a. refl) tt c.args.self.now.follows c.enter.ensures.kept c.enter.ensures.done c.enter.ensures.missed;
    }

pub returns-in_default : goal.returns-in_default
returns-in_default c =
    failed_answers (Err c.miss.result) c.miss.result _ _ _ _ refl refl
    (record { tells = refl; start = λ _. refl; scheduled = refl; later = c.miss.ensures.later })
    (inr c.miss.ensures.entries) c.miss.ensures.faults refl refl c.miss.ensures.schedule
    (inr (c.miss.ensures.starving, c.miss.ensures.entries))
