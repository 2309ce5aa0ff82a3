use Rattle.std.proofs.Common.{rules, ◌≡◌, length, sym, ◌∙◌}
use Rattle.kernel_files.proofs.Logs.{entries_all}
use Rattle.kernel_files.proofs.memory.MemoryKernelKernel.made.Goals as goal

pub returns : goal.returns
returns c =
    let acts = c.args.self.now.log.items in
    λ _. (let e : c.len.result ≡ length acts = search rules in e) ∙ sym (entries_all 0 acts)
