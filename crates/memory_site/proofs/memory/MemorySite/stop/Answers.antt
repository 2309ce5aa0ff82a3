use Rattle.std.proofs.Common.{List, ap, sym, subst, ◌∙◌}
use Rattle.crash_site.specs.Calls.{Entry}
use Rattle.crash_site.specs.Folder.{after}
use Rattle.crash_site.specs.Left.{MayBeLeft}
use Rattle.memory_site.specs.CallLog.{entries_of}
use Rattle.memory_site.specs.MemoryFolder.{folder_of}
use Rattle.memory_site.proofs.LeftLemmas.{kind_stands}
use Rattle.memory_site.proofs.memory.MemorySite.stop.Goals as goal

pub returns-clause-left : goal.returns-clause-left
returns-clause-left c =
    subst (MayBeLeft (folder_of c.args.self.now.start) (entries_of c.args.self.now.log) c.args.k)
    (sym (ap (λ (es : List Entry). (after (folder_of c.in_ok-start.start) es).files) c.new.ensures.entries
    ∙ c.in_ok-start.ensures.left))
    (kind_stands c.args.left (folder_of c.args.self.now.start) (entries_of c.args.self.now.log) c.args.k)
