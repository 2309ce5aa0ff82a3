use Rattle.std.proofs.Common.{ap, sym, subst, ◌∙◌}
use Rattle.memory_site.specs.declared.memory.marks.Marks.{Marks}
use Rattle.crash_site.specs.Folder.{Folder, after_failed}
use Rattle.memory_site.specs.CallLog.{call_of}
use Rattle.memory_site.specs.Marks.{marked_of, FollowDisk}
use Rattle.memory_site.specs.MemoryFolder.{folder_of}
use Rattle.memory_site.proofs.StopLemmas.{left_here}
use Rattle.memory_site.proofs.MarkLemmas.{failed_follow}
use Rattle.memory_site.proofs.memory.stop.Replay.fail.Goals as goal

pub returns-clause-replays : goal.returns-clause-replays
returns-clause-replays c = λ d f h.
    let call = call_of c.args.act.now in
    let reads = h.reads ∙ ap folder_of (sym c.leave.ensures.reads) in
    record {
      reads = ap (λ (x : Folder). after_failed x call c.args.steps) reads ∙ sym c.in_ok-fail_again.ensures;
      firm = c.firm_after-self.ensures d c.args.steps (h.firm ∙ sym c.leave.ensures.firm);
      marks = failed_follow d call c.args.steps (folder_of c.leave.new.self.reads) (marked_of c.leave.new.self.marks)
          (marked_of c.change.new.self) (marked_of c.fail.new.self) reads c.in_ok-change.ensures c.in_ok-fail.ensures
          (subst (λ (m : Marks). FollowDisk d (marked_of m)) (sym c.leave.ensures.marks) h.marks);
      left = left_here c.args.self.now.kind call d (folder_of c.args.self.now.reads) c.args.self.now.firm f
          (folder_of c.args.self.now.left).files (folder_of c.leave.new.self.left).files h.reads h.firm h.left
          c.in_ok-leave.ensures.left;
    }
