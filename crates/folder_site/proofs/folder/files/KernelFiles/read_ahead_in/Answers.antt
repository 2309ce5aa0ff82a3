use Rattle.folder_site.proofs.SiteReads.{holds_none}
use Rattle.folder_site.proofs.folder.files.KernelFiles.read_ahead_in.Goals as goal

pub invariant_of-self : goal.invariant_of-self
invariant_of-self g c =
    let s = c.args.self.now in
    record {
      counted = s.counted;
      holds = holds_none (g.K.Kernel.told s.kernel) (g.R.Recorder.told s.recorder) _ _ s.ahead c.new.result _
          c.new.ensures s.holds;
      folder = s.folder;
    }
