use Rattle.std.proofs.Common.{arith, ◌∙◌}
use Rattle.memory_site.specs.CallLog.{call_of}
use Rattle.memory_site.specs.MemoryFolder.{folder_of}
use Rattle.memory_site.proofs.StopLemmas.{left_here, next_left}
use Rattle.memory_site.proofs.memory.stop.Replay.cut_off.Goals as goal

pub returns : goal.returns
returns c = λ d f h.
    left_here c.args.self.now.kind (call_of c.index.result.now.act) d (folder_of c.args.self.now.reads)
    c.args.self.now.firm f
    (folder_of c.args.self.now.left).files (folder_of c.leave.new.self.left).files h.reads h.firm h.left
    c.in_ok-leave.ensures.left
    ∙ next_left c.args.self.now.kind d c.args.log.now.listed.items c.args.k c.index.result.now f (omega arith)
    c.index.ensures
