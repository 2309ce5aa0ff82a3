use Rattle.std.proofs.Common.{is_some, Option, length, subst}
use Rattle.std.specs.Result.{result_ok}
use Rattle.folder_site.specs.Told.{site_told, Lists}
use Rattle.folder_site.proofs.SiteAnswers.{same_gives, if_same}
use Rattle.crash_site.specs.Calls.{map_read}
use Rattle.folder_site.proofs.Answering.{answers}
use Rattle.folder_site.proofs.folder.KernelSiteSite.map_read.Goals as goal

pub returns-clause-call : goal.returns-clause-call
returns-clause-call g c =
    let s = c.args.self.now in
    let x = c.read_map-outcome in
    let k = c.counted.ensures in
    let t = g.K.Kernel.told s.files.kernel in
    let new = g.K.Kernel.told x.new.self.kernel in
    let r = g.R.Recorder.told s.files.recorder in
    let noted = g.R.Recorder.told x.new.self.recorder in
    let lists = subst (λ (a : Option _). Lists (map_read c.args.name.now c.args.pos (length c.args.buf.now) a) x.result (site_told t r) (site_told new noted))
    (same_gives x.result c.counted.result k.value k.error) x.ensures.lists in
    answers (map_read c.args.name.now c.args.pos (length c.args.buf.now) (result_ok c.counted.result)) x.result t new r noted (is_some s.files.image)
    (is_some x.new.self.image) (is_some s.files.draft) (is_some x.new.self.draft) s.faults c.counted.new.faults lists
    c.counted.result k.value k.error k.cause x.ensures.image x.ensures.draft

pub returns-clause-read : goal.returns-clause-read
returns-clause-read g c = if_same c.read_map-outcome.result _ c.counted.result c.counted.ensures.value c.read_map-outcome.ensures.read
