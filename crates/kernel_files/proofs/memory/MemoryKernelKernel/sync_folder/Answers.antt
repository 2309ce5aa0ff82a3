use Rattle.std.proofs.Common.{ℕ, List, refl, ap, ◌∙◌}
use Rattle.kernel_files.specs.Volume.{sync_folder, folder_of}
use Rattle.kernel_files.specs.declared.memory.Act.TheVariants.{SyncFolder}
use Rattle.kernel_files.proofs.Logs.{made_act, counts_kept}
use Rattle.kernel_files.proofs.memory.MemoryKernelKernel.sync_folder.Goals as goal

pub invariant_of-self : goal.invariant_of-self
invariant_of-self c = record {
  counts = counts_kept c.args.self.now.made (SyncFolder c.in-Ok.copied) c.list.result c.args.self.now.log.items c.list.new.log.items refl c.list.ensures.ok c.list.ensures.err c.args.self.now.counts;
}

pub returns : goal.returns
returns c =
    made_act (sync_folder (folder_of c.args.folder.now.name.items)) (SyncFolder c.in-Ok.copied) c.list.result c.args.self.now.log.items c.list.new.log.items
    (ap (λ (n : List ℕ). sync_folder (folder_of n)) (c.in-Ok.ensures.items ∙ c.as_slice.ensures.value)) c.list.ensures.ok c.list.ensures.err
