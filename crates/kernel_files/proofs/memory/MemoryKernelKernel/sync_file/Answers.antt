use Rattle.std.proofs.Common.{refl}
use Rattle.kernel_files.specs.Volume.{sync_file}
use Rattle.kernel_files.specs.declared.memory.Act.TheVariants.{SyncFile}
use Rattle.kernel_files.proofs.Logs.{made_act, counts_kept}
use Rattle.kernel_files.proofs.memory.MemoryKernelKernel.sync_file.Goals as goal

pub invariant_of-self : goal.invariant_of-self
invariant_of-self c = record {
  counts = counts_kept c.args.self.now.made (SyncFile c.args.file.now.number) c.list.result c.args.self.now.log.items c.list.new.log.items refl c.list.ensures.ok c.list.ensures.err c.args.self.now.counts;
}

pub returns : goal.returns
returns c = made_act (sync_file c.args.file.now.number) (SyncFile c.args.file.now.number) c.list.result c.args.self.now.log.items c.list.new.log.items refl c.list.ensures.ok c.list.ensures.err
