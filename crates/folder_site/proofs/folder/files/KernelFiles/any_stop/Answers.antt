use mathlib.Core.Logic.{∥∥₁_map}
use Rattle.folder_site.proofs.SiteReads.{stops_left}
use Rattle.folder_site.proofs.folder.files.KernelFiles.any_stop.Goals as goal

pub returns : goal.returns
returns g c =
    let s = c.args.self.now in
    ∥∥₁_map s.holds (stops_left (g.K.Kernel.told s.kernel) (g.R.Recorder.told s.recorder) _ _ s.ahead)
