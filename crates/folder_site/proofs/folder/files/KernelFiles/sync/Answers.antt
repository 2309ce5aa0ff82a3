use Rattle.std.proofs.Common.{false, is_some, refl, sym, ◌∙◌}
use Rattle.std.specs.Option.{option_map}
use Rattle.std.specs.Prelude.{string_bytes}
use Rattle.crash_site.specs.Calls.{image_sync}
use Rattle.folder_site.specs.Pieces.{SyncsOpen, BreaksSyncOpen}
use Rattle.folder_site.proofs.Recording.{takes, one_of, lists_one}
use Rattle.folder_site.proofs.DraftRecords.{unnoted}
use Rattle.folder_site.proofs.ImageRecords.{sync_kept, unmapped}
use Rattle.folder_site.proofs.folder.files.KernelFiles.sync.Goals as goal

pub invariant_of-self : goal.invariant_of-self
invariant_of-self g c =
    let s = c.args.self.now in
    let k = unnoted (g.K.Kernel.told s.kernel) (g.R.Recorder.told s.recorder)
    (g.R.Recorder.told c.begin_call.new.recorder) _ _ _ c.begin_call.ensures.tells c.begin_call.ensures.notes
    (s.counted, s.holds) in
    record { counted = k.0; holds = k.1; folder = s.folder }

pub invariant_of-self-2 : goal.invariant_of-self-2
invariant_of-self-2 g c =
    let s = c.args.self.now in
    let t = g.K.Kernel.told s.kernel in
    let new = g.K.Kernel.told c.sync_image-outcome.new.kernel in
    let r = g.R.Recorder.told s.recorder in
    let x = c.sync_image-outcome.result in
    let e = c.sync_image-outcome.ensures in
    let image = option_map (λ i. (g.K.Kernel.number i.file, option_map g.K.Kernel.text i.folder)) s.image in
    let made = one_of (SyncsOpen image) (BreaksSyncOpen image) x t new e.ok e.err in
    let noted = takes image_sync c.ended_of.result c.in_ok-before.before t new r
    (g.R.Recorder.told c.begin_call.new.recorder) (g.R.Recorder.told c.end_call.new.recorder) made.tells
    c.in_ok-before.ensures.made c.begin_call.ensures.tells c.begin_call.ensures.notes c.in_ok-before.ensures.begun
    c.end_call.ensures.tells c.end_call.ensures.noted in
    let k = sync_kept _ (λ i. g.K.Kernel.number i.file) (λ i. string_bytes i.name)
    (λ i. option_map g.K.Kernel.text i.folder) (λ i. is_some i.folder) (λ i. unmapped g.K.Kernel.text i.folder) x s.image
    c.ended_of.result t new r (g.R.Recorder.told c.end_call.new.recorder) _ _ s.ahead made noted c.ended_of.ensures.ok
    c.ended_of.ensures.err c.if-self.false refl refl refl s.folder (s.counted, s.holds) in
    record { counted = k.0; holds = k.1; folder = λ told. s.folder (sym made.tells ∙ told) }

pub returns-clause-lists : goal.returns-clause-lists
returns-clause-lists g c =
    let s = c.args.self.now in
    let t = g.K.Kernel.told s.kernel in
    let new = g.K.Kernel.told c.sync_image-outcome.new.kernel in
    let r = g.R.Recorder.told s.recorder in
    let x = c.sync_image-outcome.result in
    let e = c.sync_image-outcome.ensures in
    let image = option_map (λ i. (g.K.Kernel.number i.file, option_map g.K.Kernel.text i.folder)) s.image in
    let made = one_of (SyncsOpen image) (BreaksSyncOpen image) x t new e.ok e.err in
    let noted = takes image_sync c.ended_of.result c.in_ok-before.before t new r
    (g.R.Recorder.told c.begin_call.new.recorder) (g.R.Recorder.told c.end_call.new.recorder) made.tells
    c.in_ok-before.ensures.made c.begin_call.ensures.tells c.begin_call.ensures.notes c.in_ok-before.ensures.begun
    c.end_call.ensures.tells c.end_call.ensures.noted in
    lists_one (SyncsOpen image) (BreaksSyncOpen image) x image_sync c.ended_of.result t new r
    (g.R.Recorder.told c.end_call.new.recorder) made noted c.ended_of.ensures.ok c.ended_of.ensures.err refl refl s.counted
