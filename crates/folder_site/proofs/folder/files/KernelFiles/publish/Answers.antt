use Rattle.std.proofs.Common.{Option, None, refl, sym, ◌∙◌, ap, subst}
use Rattle.std.specs.Option.{option_map}
use Rattle.std.specs.Prelude.{string_bytes}
use Rattle.folder_site.specs.Told.{flag_of}
use Rattle.folder_site.specs.declared.folder.files.KernelFiles.{holds-type}
use Rattle.crash_site.specs.Calls.{draft_publish}
use Rattle.kernel_files.specs.Volume.{rename}
use Rattle.kernel_files.specs.Steps.{IsDone, IsBroken}
use Rattle.kernel_files.proofs.Steps.{done_ok, broken_err}
use Rattle.folder_site.proofs.Recording.{takes, one_of, lists_one}
use Rattle.folder_site.proofs.DraftRecords.{unnoted, let_go}
use Rattle.folder_site.proofs.MapRecords.{none_kept, publish_kept}
use Rattle.folder_site.proofs.folder.files.KernelFiles.publish.Goals as goal

pub invariant_of-self : goal.invariant_of-self
invariant_of-self g c =
    let s = c.args.self.now in
    let k = unnoted (g.K.Kernel.told s.kernel) (g.R.Recorder.told s.recorder)
    (g.R.Recorder.told c.enter_call-begun.new.recorder) _ _ _ c.enter_call-begun.ensures.tells
    c.enter_call-begun.ensures.notes
    (s.counted, s.holds) in
    let num = option_map (λ q. g.K.Kernel.number q.file) c.take.new.self in
    let text = option_map (λ q. string_bytes q.name) c.take.new.self in
    let firm = flag_of (option_map (λ q. q.is_firm) c.take.new.self) in
    let lost = flag_of (option_map (λ q. q.is_lost) c.take.new.self) in
    let none = ap (option_map (λ q. g.K.Kernel.number q.file)) c.take.ensures.after in
    let unnamed = ap (option_map (λ q. string_bytes q.name)) c.take.ensures.after in
    record {
      counted = k.0;
      holds = (let_go (g.K.Kernel.told s.kernel) (g.R.Recorder.told c.enter_call-begun.new.recorder) _ _ _ None s.ahead
          refl refl none unnamed refl refl (λ h. none_kept (g.K.Kernel.told s.kernel)) k).1;
      folder = s.folder;
    }

pub invariant_of-self-2 : goal.invariant_of-self-2
invariant_of-self-2 g c =
    let s = c.args.self.now in
    let t = g.K.Kernel.told s.kernel in
    let new = g.K.Kernel.told c.publish-outcome.new.kernel in
    let r = g.R.Recorder.told s.recorder in
    let x = c.publish-outcome.result in
    let e = c.publish-outcome.ensures in
    let d = c.in-Some.draft in
    let draft = string_bytes d.name in
    let m = c.may_publish-is_allowed.ensures in
    let y = c.in-Ok.ensures in
    let made = one_of (IsDone (rename draft c.args.name.now)) (IsBroken (rename draft c.args.name.now)) x t new
    (done_ok (rename draft c.args.name.now) x t new e) (broken_err (rename draft c.args.name.now) x t new e) in
    let noted = takes (draft_publish c.args.name.now) c.ended_of.result c.in-Ok.before t new r
    (g.R.Recorder.told c.enter_call-begun.new.recorder) (g.R.Recorder.told c.end_call.new.recorder) made.tells
    c.in-Ok.ensures.made c.enter_call-begun.ensures.tells c.enter_call-begun.ensures.notes c.in-Ok.ensures.begun
    c.end_call.ensures.tells c.end_call.ensures.noted in
    let was = subst (λ (q : Option _). holds-type _ _ _ _ g.K.Kernel g.R.Recorder s.kernel s.recorder s.rt s.input
    s.image s.ahead s.map q
    s.held s.left s.is_removed s.is_dropped s.is_closed s.counted) (sym c.take.ensures.value ∙ c.in-Some.is) s.holds in
    let num = option_map (λ q. g.K.Kernel.number q.file) c.take.new.self in
    let text = option_map (λ q. string_bytes q.name) c.take.new.self in
    let firm = flag_of (option_map (λ q. q.is_firm) c.take.new.self) in
    let lost = flag_of (option_map (λ q. q.is_lost) c.take.new.self) in
    let none = ap (option_map (λ q. g.K.Kernel.number q.file)) c.take.ensures.after in
    let unnamed = ap (option_map (λ q. string_bytes q.name)) c.take.ensures.after in
    let k = publish_kept c.ended_of.result t new r (g.R.Recorder.told c.end_call.new.recorder) _ _ s.ahead x draft
    c.args.name.now (g.K.Kernel.number d.file) num text firm lost e noted c.ended_of.ensures.ok c.ended_of.ensures.err
    none unnamed refl refl y.kept (m.other y.allowed) (m.image y.allowed) (m.firm y.allowed) (s.counted, was) in
    record { counted = k.0; holds = k.1; folder = λ told. s.folder (sym made.tells ∙ told) }

pub returns-clause-lists : goal.returns-clause-lists
returns-clause-lists g c =
    let s = c.args.self.now in
    let t = g.K.Kernel.told s.kernel in
    let new = g.K.Kernel.told c.publish-outcome.new.kernel in
    let r = g.R.Recorder.told s.recorder in
    let x = c.publish-outcome.result in
    let e = c.publish-outcome.ensures in
    let draft = string_bytes c.in-Some.draft.name in
    let made = one_of (IsDone (rename draft c.args.name.now)) (IsBroken (rename draft c.args.name.now)) x t new
    (done_ok (rename draft c.args.name.now) x t new e) (broken_err (rename draft c.args.name.now) x t new e) in
    let noted = takes (draft_publish c.args.name.now) c.ended_of.result c.in-Ok.before t new r
    (g.R.Recorder.told c.enter_call-begun.new.recorder) (g.R.Recorder.told c.end_call.new.recorder) made.tells
    c.in-Ok.ensures.made c.enter_call-begun.ensures.tells c.enter_call-begun.ensures.notes c.in-Ok.ensures.begun
    c.end_call.ensures.tells c.end_call.ensures.noted in
    lists_one (IsDone (rename draft c.args.name.now)) (IsBroken (rename draft c.args.name.now)) x (draft_publish
    c.args.name.now) c.ended_of.result t new r
    (g.R.Recorder.told c.end_call.new.recorder) made noted c.ended_of.ensures.ok c.ended_of.ensures.err refl refl
    s.counted
