use Rattle.std.proofs.Common.{is_some}
use Rattle.folder_site.proofs.SiteAnswers.{is_begun}
use Rattle.crash_site.specs.Calls.{draft_begin}
use Rattle.folder_site.proofs.Answering.{answers}
use Rattle.folder_site.proofs.folder.KernelSiteSite.draft_begin.Goals as goal

pub returns : goal.returns
returns g c =
    let s = c.args.self.now in
    let x = c.begin-outcome in
    let k = c.counted.ensures in
    answers (draft_begin c.args.name.now) x.result (g.K.Kernel.told s.files.kernel) (g.K.Kernel.told x.new.self.kernel)
    (g.R.Recorder.told s.files.recorder) (g.R.Recorder.told x.new.self.recorder) (is_some s.files.image)
    (is_some x.new.self.image) (is_some s.files.draft) (is_some x.new.self.draft) s.faults c.counted.new.faults x.ensures.lists c.counted.result
    k.value k.error k.cause x.ensures.image (is_begun x.result x.new.self.draft c.counted.result k.value k.error x.ensures.begun x.ensures.none)
