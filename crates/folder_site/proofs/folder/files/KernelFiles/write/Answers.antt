use Rattle.std.proofs.Common.{Option, refl, sym, ◌∙◌, subst}
use Rattle.std.specs.Option.{option_map}
use Rattle.std.specs.Prelude.{string_bytes}
use Rattle.crash_site.specs.Calls.{image_write}
use Rattle.kernel_files.specs.ImageCalls.{Writes}
use Rattle.folder_site.specs.Pieces.{BreaksWriteAt}
use Rattle.folder_site.specs.Told.{IsOwnFolder}
use Rattle.folder_site.specs.declared.folder.files.KernelFiles.{holds-type}
use Rattle.folder_site.proofs.Recording.{takes, one_of, lists_one}
use Rattle.folder_site.proofs.DraftRecords.{unnoted}
use Rattle.folder_site.proofs.ImageRecords.{write_kept, some_bytes}
use Rattle.folder_site.proofs.folder.files.KernelFiles.write.Goals as goal

pub invariant_of-self : goal.invariant_of-self
invariant_of-self g c =
    let s = c.args.self.now in
    let k = unnoted (g.K.Kernel.told s.kernel) (g.R.Recorder.told s.recorder)
    (g.R.Recorder.told c.begin_call.new.recorder) _ _ _ c.begin_call.ensures.tells c.begin_call.ensures.notes
    (s.counted, s.holds) in
    record { counted = k.0; holds = k.1; folder = s.folder }

pub invariant_of-self-2 : goal.invariant_of-self-2
invariant_of-self-2 g c =
    let s = c.args.self.now in
    let t = g.K.Kernel.told s.kernel in
    let new = g.K.Kernel.told c.write-outcome.new.kernel in
    let r = g.R.Recorder.told s.recorder in
    let i = g.K.Kernel.number c.in-Some.image.file in
    let x = c.write-outcome.result in
    let e = c.write-outcome.ensures in
    let piece = c.args.piece.now in
    let made = one_of (Writes i c.args.pos piece) (BreaksWriteAt i c.args.pos piece) x t new e.ok e.err in
    let noted = takes (image_write c.args.pos piece) c.ended_of.result c.in_ok-before.before t new r
    (g.R.Recorder.told c.begin_call.new.recorder) (g.R.Recorder.told c.end_call.new.recorder) made.tells
    c.in_ok-before.ensures.made c.begin_call.ensures.tells c.begin_call.ensures.notes c.in_ok-before.ensures.begun
    c.end_call.ensures.tells c.end_call.ensures.noted in
    let was = subst (λ (q : Option _). holds-type _ _ _ _ g.K.Kernel g.R.Recorder s.kernel s.recorder s.rt s.input q s.ahead s.map s.draft
    s.held s.left s.is_removed s.is_dropped s.is_closed s.counted) c.in-Some.is s.holds in
    let k = write_kept x i c.args.pos piece c.ended_of.result t new r (g.R.Recorder.told c.end_call.new.recorder) _ _
    s.ahead c.write-outcome.new.ahead s.ahead.room made noted c.ended_of.ensures.ok c.ended_of.ensures.err refl
    (some_bytes piece c.is_empty.result c.is_empty.ensures c.if-is_empty.false) c.if-self.false e.dropped (s.counted, was) in
    record {
      counted = k.0;
      holds = k.1;
      folder = λ told.
          subst (λ (q : Option _). IsOwnFolder (option_map (λ y. (string_bytes y.name, option_map g.K.Kernel.text y.folder)) q))
          c.in-Some.is (s.folder (sym made.tells ∙ told));
    }

pub returns-clause-lists : goal.returns-clause-lists
returns-clause-lists g c =
    let s = c.args.self.now in
    let t = g.K.Kernel.told s.kernel in
    let new = g.K.Kernel.told c.write-outcome.new.kernel in
    let r = g.R.Recorder.told s.recorder in
    let i = g.K.Kernel.number c.in-Some.image.file in
    let x = c.write-outcome.result in
    let e = c.write-outcome.ensures in
    let piece = c.args.piece.now in
    let made = one_of (Writes i c.args.pos piece) (BreaksWriteAt i c.args.pos piece) x t new e.ok e.err in
    let noted = takes (image_write c.args.pos piece) c.ended_of.result c.in_ok-before.before t new r
    (g.R.Recorder.told c.begin_call.new.recorder) (g.R.Recorder.told c.end_call.new.recorder) made.tells
    c.in_ok-before.ensures.made c.begin_call.ensures.tells c.begin_call.ensures.notes c.in_ok-before.ensures.begun
    c.end_call.ensures.tells c.end_call.ensures.noted in
    lists_one (Writes i c.args.pos piece) (BreaksWriteAt i c.args.pos piece) x (image_write c.args.pos piece)
    c.ended_of.result t new r (g.R.Recorder.told c.end_call.new.recorder) made noted c.ended_of.ensures.ok
    c.ended_of.ensures.err refl refl s.counted
