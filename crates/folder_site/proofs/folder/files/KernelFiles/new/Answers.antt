use Rattle.std.proofs.Common.{refl}
use Rattle.folder_site.proofs.SiteReads.{new_counted, new_holds, no_folder}
use Rattle.folder_site.proofs.folder.files.KernelFiles.new.Goals as goal

pub invariant_of-result : goal.invariant_of-result
invariant_of-result g c =
    let t = g.K.Kernel.told c.args.kernel in
    let r = g.R.Recorder.told c.args.recorder in
    record {
      counted = new_counted t r c.requires;
      holds = new_holds t r _ c.new-2.result c.requires refl refl refl refl;
      folder = λ told. no_folder;
    }
