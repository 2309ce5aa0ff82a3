use Rattle.std.proofs.Common.{ap, is_some}
use Rattle.folder_site.proofs.SiteAnswers.{if_same, err_same}
use Rattle.kernel_files.proofs.Steps.{err_map}
use Rattle.crash_site.specs.Calls.{image_open}
use Rattle.folder_site.proofs.Answering.{answers}
use Rattle.folder_site.proofs.folder.KernelSiteSite.image_open.Goals as goal

pub returns-clause-call : goal.returns-clause-call
returns-clause-call g c =
    let s = c.args.self.now in
    let x = c.open-outcome in
    let k = c.counted.ensures in
    answers (image_open c.args.name.now c.args.make) x.result (g.K.Kernel.told s.files.kernel) (g.K.Kernel.told x.new.self.kernel)
    (g.R.Recorder.told s.files.recorder) (g.R.Recorder.told x.new.self.recorder) (is_some s.files.image)
    (is_some x.new.self.image) (is_some s.files.draft) (is_some x.new.self.draft) s.faults c.counted.new.faults x.ensures.lists c.counted.result
    k.value k.error k.cause tt x.ensures.draft

pub returns-clause-kind : goal.returns-clause-kind
returns-clause-kind g c = if_same c.open-outcome.result _ c.counted.result c.counted.ensures.value c.open-outcome.ensures.kind

pub returns-clause-closed : goal.returns-clause-closed
returns-clause-closed g c =
    err_same c.open-outcome.result _ c.counted.result c.counted.ensures.error
    (err_map _ _ c.open-outcome.result (ap is_some) c.open-outcome.ensures.closed)
