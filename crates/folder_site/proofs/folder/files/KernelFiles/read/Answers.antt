use Rattle.std.proofs.Common.{None, length, refl, ap}
use Rattle.std.specs.Option.{option_map}
use Rattle.crash_site.specs.Calls.{image_read}
use Rattle.folder_site.proofs.Recording.{takes}
use Rattle.folder_site.proofs.DraftRecords.{unnoted}
use Rattle.folder_site.proofs.ImageRecords.{read_kept, read_lists, read_right}
use Rattle.folder_site.proofs.folder.files.KernelFiles.read.Goals as goal

pub invariant_of-self : goal.invariant_of-self
invariant_of-self g c =
    let s = c.args.self.now in
    let k = unnoted (g.K.Kernel.told s.kernel) (g.R.Recorder.told s.recorder)
    (g.R.Recorder.told c.begin_call.new.recorder) _ _ _ c.begin_call.ensures.tells c.begin_call.ensures.notes
    (s.counted, s.holds) in
    record { counted = k.0; holds = k.1; folder = s.folder }

pub invariant_of-self-2 : goal.invariant_of-self-2
invariant_of-self-2 g c =
    let s = c.args.self.now in
    let t = g.K.Kernel.told s.kernel in
    let r = g.R.Recorder.told s.recorder in
    let asked = length c.args.buf.now in
    let noted = takes (image_read c.args.pos asked None) c.ended_read.result c.in_ok-before.before t t r
    (g.R.Recorder.told c.begin_call.new.recorder) (g.R.Recorder.told c.end_call.new.recorder) refl
    c.in_ok-before.ensures.made c.begin_call.ensures.tells c.begin_call.ensures.notes c.in_ok-before.ensures.begun
    c.end_call.ensures.tells c.end_call.ensures.noted in
    let k = read_kept c.args.pos asked c.ended_read.result t r (g.R.Recorder.told c.end_call.new.recorder) _ _ s.ahead
    c.read-outcome.new.ahead (g.K.Kernel.number c.in-Some.image.file) noted
    (ap (option_map (λ i. g.K.Kernel.number i.file)) c.in-Some.is) c.if-self.false c.read-outcome.ensures.held
    (s.counted, s.holds) in
    record { counted = k.0; holds = k.1; folder = s.folder }

pub returns-clause-lists : goal.returns-clause-lists
returns-clause-lists g c =
    let s = c.args.self.now in
    let t = g.K.Kernel.told s.kernel in
    let r = g.R.Recorder.told s.recorder in
    let asked = length c.args.buf.now in
    let noted = takes (image_read c.args.pos asked None) c.ended_read.result c.in_ok-before.before t t r
    (g.R.Recorder.told c.begin_call.new.recorder) (g.R.Recorder.told c.end_call.new.recorder) refl
    c.in_ok-before.ensures.made c.begin_call.ensures.tells c.begin_call.ensures.notes c.in_ok-before.ensures.begun
    c.end_call.ensures.tells c.end_call.ensures.noted in
    read_lists c.read-outcome.result c.args.pos asked c.ended_read.result t r
    (g.R.Recorder.told c.end_call.new.recorder) noted c.ended_read.ensures.ok c.ended_read.ensures.err s.counted

pub returns-clause-read : goal.returns-clause-read
returns-clause-read g c =
    let s = c.args.self.now in
    read_right c.read-outcome.result c.args.pos c.read-outcome.new.buf (g.K.Kernel.told s.kernel)
    (g.R.Recorder.told s.recorder) _ _ s.ahead (g.K.Kernel.number c.in-Some.image.file)
    (ap (option_map (λ i. g.K.Kernel.number i.file)) c.in-Some.is) c.if-self.false c.read-outcome.ensures.read s.holds
