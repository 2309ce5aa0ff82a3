use Rattle.std.proofs.Common.{ap, sym, subst, ◌∙◌}
use Rattle.memory_site.specs.declared.memory.memory_folder.MemoryFolder.{MemoryFolder}
use Rattle.memory_site.specs.declared.memory.marks.Marks.{Marks}
use Rattle.memory_site.specs.declared.memory.stop.Left.{Left}
use Rattle.crash_site.specs.Folder.{Folder, after_done}
use Rattle.memory_site.specs.CallLog.{call_of}
use Rattle.memory_site.specs.FilesLeft.{with_some, left_part, sure_name}
use Rattle.memory_site.specs.Marks.{marked_of, FollowDisk, sure_marked}
use Rattle.memory_site.specs.MemoryFolder.{folder_of}
use Rattle.memory_site.proofs.StopLemmas.{left_done}
use Rattle.memory_site.proofs.MarkLemmas.{made_follow}
use Rattle.memory_site.proofs.memory.stop.Replay.make.Goals as goal

pub returns-clause-replays : goal.returns-clause-replays
returns-clause-replays c = λ d f h.
    let call = call_of c.args.act.now in
    let kind = c.args.self.now.kind in
    let reads = h.reads ∙ ap folder_of (sym c.leave.ensures.reads) in
    let marks = subst (λ (m : Marks). FollowDisk d (marked_of m)) (sym c.leave.ensures.marks) h.marks in
    let left = folder_of c.leave.new.self.left in
    let lost = (marked_of c.leave.new.self.marks).lost in
    record {
      reads = ap (λ (x : Folder). after_done x call) reads ∙ sym c.in_ok-make_again.ensures;
      firm = c.firm_after-self.ensures d 0 (h.firm ∙ sym c.leave.ensures.firm);
      marks = made_follow d call (folder_of c.leave.new.self.reads) (marked_of c.leave.new.self.marks)
          (marked_of c.change.new.self) (marked_of c.finish.new.self) reads c.in_ok-change.ensures
          c.in_ok-finish.ensures marks;
      left = left_done kind call d (folder_of c.leave.new.self.reads) c.args.self.now.firm
          (marked_of c.leave.new.self.marks) f (folder_of c.args.self.now.left).files left.files
          (folder_of c.make_sure.new.left).files reads h.firm marks h.left
          (c.in_ok-leave.ensures.left
          ∙ ap (λ (m : MemoryFolder). left_part kind call (folder_of m) c.args.self.now.firm
          (folder_of c.args.self.now.left).files) (sym c.leave.ensures.reads))
          (c.in_ok-make_sure.ensures
          ∙ ap (λ (k : Left). with_some (sure_name call (folder_of c.leave.new.self.reads))
          (sure_marked call k (folder_of c.leave.new.self.reads) lost) left.files) c.leave.ensures.kind);
    }
