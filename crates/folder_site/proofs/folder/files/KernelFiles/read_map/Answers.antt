use Rattle.std.proofs.Common.{length, None, refl}
use Rattle.crash_site.specs.Calls.{map_read}
use Rattle.folder_site.proofs.Recording.{takes}
use Rattle.folder_site.proofs.DraftRecords.{unnoted}
use Rattle.folder_site.proofs.MapReads.{map_read_kept, map_read_lists, map_read_right}
use Rattle.folder_site.proofs.folder.files.KernelFiles.read_map.Goals as goal

pub invariant_of-self : goal.invariant_of-self
invariant_of-self g c =
    let s = c.args.self.now in
    let k = unnoted (g.K.Kernel.told s.kernel) (g.R.Recorder.told s.recorder)
    (g.R.Recorder.told c.begin_call.new.recorder) _ _ _ c.begin_call.ensures.tells c.begin_call.ensures.notes
    (s.counted, s.holds) in
    record { counted = k.0; holds = k.1; folder = s.folder }

pub invariant_of-self-2 : goal.invariant_of-self-2
invariant_of-self-2 g c =
    let s = c.args.self.now in
    let t = g.K.Kernel.told s.kernel in
    let r = g.R.Recorder.told s.recorder in
    let asked = length c.args.buf.now in
    let noted = takes (map_read c.args.name.now c.args.pos asked None) c.ended_map_read.result c.in_ok-before.before t t r
    (g.R.Recorder.told c.begin_call.new.recorder) (g.R.Recorder.told c.end_call.new.recorder) refl
    c.in_ok-before.ensures.made c.begin_call.ensures.tells c.begin_call.ensures.notes c.in_ok-before.ensures.begun
    c.end_call.ensures.tells c.end_call.ensures.noted in
    let k = map_read_kept c.args.name.now c.args.pos asked c.ended_map_read.result t r
    (g.R.Recorder.told c.end_call.new.recorder) noted _ _ _ s.ahead c.if-self.false c.read_map-outcome.ensures.kept
    (s.counted, s.holds) in
    record { counted = k.0; holds = k.1; folder = s.folder }

pub returns-clause-lists : goal.returns-clause-lists
returns-clause-lists g c =
    let s = c.args.self.now in
    let t = g.K.Kernel.told s.kernel in
    let r = g.R.Recorder.told s.recorder in
    let asked = length c.args.buf.now in
    let noted = takes (map_read c.args.name.now c.args.pos asked None) c.ended_map_read.result c.in_ok-before.before t t r
    (g.R.Recorder.told c.begin_call.new.recorder) (g.R.Recorder.told c.end_call.new.recorder) refl
    c.in_ok-before.ensures.made c.begin_call.ensures.tells c.begin_call.ensures.notes c.in_ok-before.ensures.begun
    c.end_call.ensures.tells c.end_call.ensures.noted in
    map_read_lists c.args.name.now c.args.pos asked c.ended_map_read.result t r
    (g.R.Recorder.told c.end_call.new.recorder) noted c.read_map-outcome.result c.ended_map_read.ensures.ok
    c.ended_map_read.ensures.err s.counted

pub returns-clause-read : goal.returns-clause-read
returns-clause-read g c =
    let s = c.args.self.now in
    map_read_right c.read_map-outcome.result c.args.name.now c.args.pos c.read_map-outcome.new.buf
    (g.K.Kernel.told s.kernel) (g.R.Recorder.told s.recorder) _ _ s.ahead c.if-self.false
    c.read_map-outcome.ensures.read s.holds
