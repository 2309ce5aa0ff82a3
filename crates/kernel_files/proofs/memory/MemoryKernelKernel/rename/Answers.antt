use Rattle.std.proofs.Common.{ℕ, List, refl, ap, ◌∙◌}
use Rattle.kernel_files.specs.Volume.{rename}
use Rattle.kernel_files.specs.declared.memory.Act.TheVariants.{Rename}
use Rattle.kernel_files.proofs.Logs.{made_act, counts_kept}
use Rattle.kernel_files.proofs.memory.MemoryKernelKernel.rename.Goals as goal

pub invariant_of-self : goal.invariant_of-self
invariant_of-self c = record {
  counts = counts_kept c.args.self.now.made (Rename c.in-Ok.first c.in-Ok-from_slice.second) c.list.result c.args.self.now.log.items c.list.new.log.items refl c.list.ensures.ok c.list.ensures.err c.args.self.now.counts;
}

pub returns : goal.returns
returns c = made_act (rename c.args.from.now c.args.to.now) (Rename c.in-Ok.first c.in-Ok-from_slice.second) c.list.result c.args.self.now.log.items c.list.new.log.items (ap (λ (n : List ℕ). rename n c.in-Ok-from_slice.second.items) (c.in-Ok.ensures.items ∙ c.as_bytes.ensures.value) ∙ ap (λ (n : List ℕ). rename c.args.from.now n) (c.in-Ok-from_slice.ensures.items ∙ c.as_bytes-2.ensures.value)) c.list.ensures.ok c.list.ensures.err
