use Rattle.std.proofs.Common.{◌≡◌, true, false, Option, refl, sym, ◌∙◌, ap, subst}
use Rattle.std.specs.Option.{option_map}
use Rattle.std.specs.Prelude.{string_bytes}
use Rattle.crash_site.specs.Calls.{draft_sync}
use Rattle.kernel_files.specs.Volume.{sync_file}
use Rattle.kernel_files.specs.Steps.{IsDone, IsBroken}
use Rattle.kernel_files.proofs.Steps.{done_ok, broken_err}
use Rattle.folder_site.specs.Told.{flag_of}
use Rattle.folder_site.specs.declared.folder.files.KernelFiles.{holds-type}
use Rattle.folder_site.proofs.Recording.{takes, one_of, lists_one}
use Rattle.folder_site.proofs.DraftRecords.{unnoted, sync_kept}
use Rattle.folder_site.proofs.folder.files.KernelFiles.sync_draft.Goals as goal

pub invariant_of-self : goal.invariant_of-self
invariant_of-self g c =
    let s = c.args.self.now in
    record { counted = s.counted; holds = s.holds; folder = s.folder }

pub invariant_of-self-in-Break-1 : goal.invariant_of-self-in-Break-1
invariant_of-self-in-Break-1 g c =
    let s = c.args.self.now in
    let k = unnoted (g.K.Kernel.told s.kernel) (g.R.Recorder.told s.recorder)
    (g.R.Recorder.told c.begin_call.new.recorder) _ _ _ c.begin_call.ensures.tells c.begin_call.ensures.notes
    (s.counted, s.holds) in
    record { counted = k.0; holds = k.1; folder = s.folder }

pub invariant_of-self-2 : goal.invariant_of-self-2
invariant_of-self-2 g c =
    let s = c.args.self.now in
    let t = g.K.Kernel.told s.kernel in
    let new = g.K.Kernel.told c.sync-outcome.new.kernel in
    let r = g.R.Recorder.told s.recorder in
    let x = c.sync-outcome.result in
    let e = c.sync-outcome.ensures in
    let d = c.in-Some.draft in
    let i = g.K.Kernel.number d.file in
    let made = one_of (IsDone (sync_file i)) (IsBroken (sync_file i)) x t new (done_ok (sync_file i) x t new e.made)
    (broken_err (sync_file i) x t new e.made) in
    let noted = takes draft_sync c.ended_of.result c.in_ok-before.before t new r
    (g.R.Recorder.told c.begin_call.new.recorder) (g.R.Recorder.told c.end_call.new.recorder) made.tells
    c.in_ok-before.ensures.made c.begin_call.ensures.tells c.begin_call.ensures.notes c.in_ok-before.ensures.begun
    c.end_call.ensures.tells c.end_call.ensures.noted in
    let was = subst (λ (q : Option _). holds-type _ _ _ _ g.K.Kernel g.R.Recorder s.kernel s.recorder s.rt s.input
    s.image s.ahead s.map q
    s.held s.left s.is_removed s.is_dropped s.is_closed s.counted) c.in-Some.is s.holds in
    let whole : d.is_lost ≡ false =
    sym (ap (λ (q : Option _). flag_of (option_map (λ y. y.is_lost) q)) c.in-Some.is)
    ∙ sym c.is_lost.ensures ∙ c.if-is_lost.false in
    let k = sync_kept _ (λ q. g.K.Kernel.number q.file) (λ q. string_bytes q.name) (λ q. q.is_firm) (λ q. q.is_lost)
    c.ended_of.result t new r (g.R.Recorder.told c.end_call.new.recorder) _ d c.sync-outcome.new.self
    (record d { is_firm = true }) (record d { is_firm = false; is_lost = true }) _ s.ahead x e.made noted
    c.ended_of.ensures.ok c.ended_of.ensures.err e.done e.lost refl c.if-self.false whole refl refl (s.counted, was) in
    record { counted = k.0; holds = k.1; folder = λ told. s.folder (sym made.tells ∙ told) }

pub returns-clause-lists : goal.returns-clause-lists
returns-clause-lists g c =
    let s = c.args.self.now in
    let t = g.K.Kernel.told s.kernel in
    let new = g.K.Kernel.told c.sync-outcome.new.kernel in
    let r = g.R.Recorder.told s.recorder in
    let x = c.sync-outcome.result in
    let e = c.sync-outcome.ensures in
    let i = g.K.Kernel.number c.in-Some.draft.file in
    let made = one_of (IsDone (sync_file i)) (IsBroken (sync_file i)) x t new (done_ok (sync_file i) x t new e.made)
    (broken_err (sync_file i) x t new e.made) in
    let noted = takes draft_sync c.ended_of.result c.in_ok-before.before t new r
    (g.R.Recorder.told c.begin_call.new.recorder) (g.R.Recorder.told c.end_call.new.recorder) made.tells
    c.in_ok-before.ensures.made c.begin_call.ensures.tells c.begin_call.ensures.notes c.in_ok-before.ensures.begun
    c.end_call.ensures.tells c.end_call.ensures.noted in
    lists_one (IsDone (sync_file i)) (IsBroken (sync_file i)) x draft_sync c.ended_of.result t new r
    (g.R.Recorder.told c.end_call.new.recorder) made noted
    c.ended_of.ensures.ok c.ended_of.ensures.err refl refl s.counted
