use Rattle.std.proofs.Common.{ℕ, [], false, refl, take}
use Rattle.kernel_files.specs.Volume.{append}
use Rattle.kernel_files.specs.Log.{empty_volume}
use Rattle.folder_site.proofs.Silent.{silent_write}
use Rattle.folder_site.proofs.real.RealKernelKernel.append.Goals as goal

pub returns-clause-made : goal.returns-clause-made
returns-clause-made c =
    silent_write (λ (n : ℕ). append 0 (take n c.args.piece.now)) c.write.result c.args.piece.now
    (record { tells = false; start = empty_volume; calls = [] }) refl c.write.ensures.bound
