use Rattle.std.proofs.Common.{ℕ, List, refl, ap, ◌∙◌}
use Rattle.kernel_files.specs.Volume.{unlink}
use Rattle.kernel_files.specs.declared.memory.Act.TheVariants.{Unlink}
use Rattle.kernel_files.proofs.Logs.{made_act, counts_kept}
use Rattle.kernel_files.proofs.memory.MemoryKernelKernel.unlink.Goals as goal

pub invariant_of-self : goal.invariant_of-self
invariant_of-self c = record {
  counts = counts_kept c.args.self.now.made (Unlink c.in-Ok.copied) c.list.result c.args.self.now.log.items c.list.new.log.items refl c.list.ensures.ok c.list.ensures.err c.args.self.now.counts;
}

pub returns-clause-made : goal.returns-clause-made
returns-clause-made c = made_act (unlink c.args.name.now) (Unlink c.in-Ok.copied) c.list.result c.args.self.now.log.items c.list.new.log.items (ap (λ (n : List ℕ). unlink n) (c.in-Ok.ensures.items ∙ c.as_bytes.ensures.value)) c.list.ensures.ok c.list.ensures.err
