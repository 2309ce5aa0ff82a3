use Rattle.std.proofs.Common.{sym, ◌∙◌}
use Rattle.memory_source.proofs.Entries.{entries_told}
use Rattle.memory_source.proofs.memory.MemorySource.journal.Goals as goal

pub returns : goal.returns
returns c =
    c.deref.ensures.value ∙ sym (entries_told c.args.self.now.bytes.items c.args.self.now.entries.items c.args.self.now.within)
