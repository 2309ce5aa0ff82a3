use Rattle.std.proofs.Common.{refl}
use Rattle.crash_site.specs.Calls.{draft_sync}
use Rattle.memory_site.specs.MemoryFolder.{folder_of}
use Rattle.memory_site.specs.CallLog.{entries_of}
use Rattle.memory_site.proofs.FollowLemmas.{follows_entered}
use Rattle.memory_site.proofs.memory.MemorySiteSite.draft_sync.Goals as goal

pub invariant_of-self : goal.invariant_of-self
invariant_of-self c =
    record {
      follows = follows_entered (folder_of c.args.self.now.start) c.args.self.now.folder c.enter.new.folder
          (entries_of c.args.self.now.log) (entries_of c.enter.new.log) draft_sync c.enter.result
          (λ a. refl) tt c.args.self.now.follows c.enter.ensures.kept c.enter.ensures.done c.enter.ensures.missed;
    }
