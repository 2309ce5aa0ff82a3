use Rattle.std.proofs.Common.{subst, take, ◌∙◌, ◌+◌, arith, ◌≡◌}
use Rattle.crash_site.specs.Disk.{Disk, at_rest, entered, disk_after}
use Rattle.memory_site.specs.FilesLeft.{left_along, left_entry}
use Rattle.memory_site.specs.declared.memory.stop.Left.{Left}
use Rattle.memory_site.specs.CallLog.{entries_of, entry_of}
use Rattle.memory_site.specs.MemoryFolder.{folder_of}
use Rattle.memory_site.specs.Stopped.{Replays}
use Rattle.memory_site.proofs.StopLemmas.{disk_more, left_more, left_from}
use Rattle.memory_site.proofs.memory.stop.left_at.Goals as goal

pub loop-i-preserved : goal.loop-i-preserved
loop-i-preserved c =
    let start = at_rest (folder_of c.args.start.now) in
    let f = (folder_of c.args.start.now).files in
    let d : Disk = disk_after start (take c.loop-i.i (entries_of c.args.log.now)) in
    let left = left_along c.args.kind start f (take c.loop-i.i (entries_of c.args.log.now)) in
    let l = c.index.result.now in
    let items = c.args.log.now.listed.items in
    record {
      replays = subst
          (λ (x : Disk). Replays c.step.new.self x
          (left_along c.args.kind start f (take (c.loop-i.i + 1) (entries_of c.args.log.now))))
          (disk_more start items c.loop-i.i l (omega arith) c.index.ensures)
          (subst (Replays c.step.new.self (entered d (entry_of l)))
          (left_more c.args.kind start f items c.loop-i.i l (omega arith) c.index.ensures)
          (subst
          (λ (kind : Left). Replays c.step.new.self (entered d (entry_of l)) (left_entry kind d (entry_of l) left))
          c.loop-i.invariant.kind
          (c.in_ok-step.ensures.replays d left c.loop-i.invariant.replays)));
      kind = c.step.ensures.kind ∙ c.loop-i.invariant.kind;
    }

pub returns-clause-left : goal.returns-clause-left
returns-clause-left c =
    let e : c.loop-i.i ≡ c.args.k = omega arith in
    left_from c.loop-i.replay.kind c.args.kind (folder_of c.args.start.now) (entries_of c.args.log.now) c.loop-i.i
    c.args.k (folder_of c.cut_off.new.self.left).files e c.loop-i.invariant.kind
    (c.in_ok-cut_off.ensures
    (disk_after (at_rest (folder_of c.args.start.now)) (take c.loop-i.i (entries_of c.args.log.now)))
    (left_along c.args.kind (at_rest (folder_of c.args.start.now)) (folder_of c.args.start.now).files
    (take c.loop-i.i (entries_of c.args.log.now))) c.loop-i.invariant.replays)
