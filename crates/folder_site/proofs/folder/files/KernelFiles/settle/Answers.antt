use Rattle.std.proofs.Common.{refl, sym, ◌∙◌}
use Rattle.crash_site.specs.Calls.{map_settle}
use Rattle.kernel_files.specs.Answers.{volume}
use Rattle.kernel_files.specs.MapCalls.{SettlesFound, BreaksSettles}
use Rattle.folder_site.proofs.Recording.{takes, one_of, lists_one}
use Rattle.folder_site.proofs.DraftRecords.{unnoted}
use Rattle.folder_site.proofs.MapRecords.{unmapped, settle_kept}
use Rattle.folder_site.proofs.folder.files.KernelFiles.settle.Goals as goal

pub invariant_of-self : goal.invariant_of-self
invariant_of-self g c =
    let s = c.args.self.now in
    let k = unnoted (g.K.Kernel.told s.kernel) (g.R.Recorder.told s.recorder)
    (g.R.Recorder.told c.enter_call.new.recorder) _ _ _ c.enter_call.ensures.tells c.enter_call.ensures.notes
    (s.counted, s.holds) in
    let l = unmapped (g.K.Kernel.told s.kernel) (g.R.Recorder.told c.enter_call.new.recorder) _ _ s.ahead k in
    record { counted = l.0; holds = l.1; folder = s.folder }

pub invariant_of-self-2 : goal.invariant_of-self-2
invariant_of-self-2 g c =
    let s = c.args.self.now in
    let t = g.K.Kernel.told s.kernel in
    let new = g.K.Kernel.told c.settle-outcome.new.kernel in
    let r = g.R.Recorder.told s.recorder in
    let x = c.settle-outcome.result in
    let e = c.settle-outcome.ensures in
    let m = c.may_settle-is_allowed.ensures in
    let y = c.in_ok-before.ensures in
    let made = one_of (SettlesFound (volume t) c.args.name.now) (BreaksSettles (volume t) c.args.name.now) x t new
    e.ok e.err in
    let noted = takes (map_settle c.args.name.now) c.ended_of.result c.in_ok-before.before t new r
    (g.R.Recorder.told c.enter_call.new.recorder) (g.R.Recorder.told c.end_call.new.recorder) made.tells
    c.in_ok-before.ensures.made c.enter_call.ensures.tells c.enter_call.ensures.notes c.in_ok-before.ensures.begun
    c.end_call.ensures.tells c.end_call.ensures.noted in
    let k = settle_kept c.ended_of.result t new r (g.R.Recorder.told c.end_call.new.recorder) _ _ s.ahead x
    c.args.name.now e.ok e.err
    noted c.ended_of.ensures.ok c.ended_of.ensures.err y.kept (m.draft y.allowed) (m.image y.allowed) (m.left
    y.allowed) (s.counted, s.holds) in
    record { counted = k.0; holds = k.1; folder = λ told. s.folder (sym made.tells ∙ told) }

pub returns-clause-lists : goal.returns-clause-lists
returns-clause-lists g c =
    let s = c.args.self.now in
    let t = g.K.Kernel.told s.kernel in
    let new = g.K.Kernel.told c.settle-outcome.new.kernel in
    let r = g.R.Recorder.told s.recorder in
    let x = c.settle-outcome.result in
    let e = c.settle-outcome.ensures in
    let made = one_of (SettlesFound (volume t) c.args.name.now) (BreaksSettles (volume t) c.args.name.now) x t new
    e.ok e.err in
    let noted = takes (map_settle c.args.name.now) c.ended_of.result c.in_ok-before.before t new r
    (g.R.Recorder.told c.enter_call.new.recorder) (g.R.Recorder.told c.end_call.new.recorder) made.tells
    c.in_ok-before.ensures.made c.enter_call.ensures.tells c.enter_call.ensures.notes c.in_ok-before.ensures.begun
    c.end_call.ensures.tells c.end_call.ensures.noted in
    lists_one (SettlesFound (volume t) c.args.name.now) (BreaksSettles (volume t) c.args.name.now) x (map_settle
    c.args.name.now) c.ended_of.result t new r (g.R.Recorder.told c.end_call.new.recorder) made noted
    c.ended_of.ensures.ok c.ended_of.ensures.err refl refl s.counted
