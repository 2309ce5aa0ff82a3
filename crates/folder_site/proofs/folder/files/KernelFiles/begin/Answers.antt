use Rattle.std.proofs.Common.{◌≡◌, false, Option, None, refl, sym, ◌∙◌, ap, subst}
use Rattle.std.specs.Option.{option_map}
use Rattle.std.specs.Prelude.{string_bytes}
use Rattle.std.proofs.lemmas.Result.{err_from_is_err_and}
use Rattle.crash_site.specs.Calls.{draft_begin}
use Rattle.kernel_files.specs.Answers.{volume}
use Rattle.kernel_files.specs.Steps.{MadeBy}
use Rattle.kernel_files.specs.MapCalls.{Begins}
use Rattle.site_record.specs.Record.{is_well}
use Rattle.folder_site.specs.Told.{flag_of}
use Rattle.folder_site.specs.Drafts.{BreaksBeginAt}
use Rattle.folder_site.specs.Left.{Leaves}
use Rattle.folder_site.proofs.Recording.{takes, lists_done, lists_lost}
use Rattle.folder_site.proofs.DraftRecords.{unnoted, let_go}
use Rattle.folder_site.proofs.MapRecords.{on_ok, on_err, if_ok, none_kept, begun_kept, unbegun_kept}
use Rattle.folder_site.proofs.folder.files.KernelFiles.begin.Goals as goal

pub invariant_of-self : goal.invariant_of-self
invariant_of-self g c =
    let s = c.args.self.now in
    let k = unnoted (g.K.Kernel.told s.kernel) (g.R.Recorder.told s.recorder)
    (g.R.Recorder.told c.enter_call-begun.new.recorder) _ _ _ c.enter_call-begun.ensures.tells
    c.enter_call-begun.ensures.notes
    (s.counted, s.holds) in
    let num = option_map (λ q. g.K.Kernel.number q.file) c.take.new.self in
    let text = option_map (λ q. string_bytes q.name) c.take.new.self in
    let firm = flag_of (option_map (λ q. q.is_firm) c.take.new.self) in
    let lost = flag_of (option_map (λ q. q.is_lost) c.take.new.self) in
    let none = ap (option_map (λ q. g.K.Kernel.number q.file)) c.take.ensures.after in
    let unnamed = ap (option_map (λ q. string_bytes q.name)) c.take.ensures.after in
    record {
      counted = k.0;
      holds = (let_go (g.K.Kernel.told s.kernel) (g.R.Recorder.told c.enter_call-begun.new.recorder) _ _ _ None s.ahead
          refl refl none unnamed refl refl (λ h. none_kept (g.K.Kernel.told s.kernel)) k).1;
      folder = s.folder;
    }

pub invariant_of-self-in-Break-1 : goal.invariant_of-self-in-Break-1
invariant_of-self-in-Break-1 g c =
    let s = c.args.self.now in
    let t = g.K.Kernel.told s.kernel in
    let new = g.K.Kernel.told c.begin-begun.new.kernel in
    let r = g.R.Recorder.told s.recorder in
    let m = c.may_begin-is_allowed.ensures in
    let y = c.in-Ok.ensures in
    let left = option_map (λ l. string_bytes l) c.may_begin-is_allowed.new.left in
    let made = on_err _ c.begin-begun.result _ c.in_err-begun.was c.begin-begun.ensures.err in
    let failed = on_err _ c.begin-begun.result _ c.in_err-begun.was c.ended_of.ensures.err in
    let noted = takes (draft_begin c.args.name.now) c.ended_of.result c.in-Ok.before t new r
    (g.R.Recorder.told c.enter_call-begun.new.recorder) (g.R.Recorder.told c.end_call.new.recorder) made.tells
    c.in-Ok.ensures.made c.enter_call-begun.ensures.tells c.enter_call-begun.ensures.notes c.in-Ok.ensures.begun
    c.end_call.ensures.tells c.end_call.ensures.noted in
    let num = option_map (λ q. g.K.Kernel.number q.file) c.take.new.self in
    let text = option_map (λ q. string_bytes q.name) c.take.new.self in
    let firm = flag_of (option_map (λ q. q.is_firm) c.take.new.self) in
    let lost = flag_of (option_map (λ q. q.is_lost) c.take.new.self) in
    let none = ap (option_map (λ q. g.K.Kernel.number q.file)) c.take.ensures.after in
    let unnamed = ap (option_map (λ q. string_bytes q.name)) c.take.ensures.after in
    let k = unbegun_kept c.ended_of.result t new r (g.R.Recorder.told c.end_call.new.recorder) _ _ s.ahead
    c.args.name.now num
    text firm lost left _ (λ q. g.K.Kernel.number q.file) (λ q. string_bytes q.name) (λ q. q.is_firm) s.draft made
    noted failed none unnamed y.kept (m.image y.allowed)
    refl refl refl (subst (λ (q : Option _). Leaves (option_map (λ z. string_bytes z.name) q) (option_map (λ z.
    z.is_firm) q)
    (option_map (λ l. string_bytes l) s.left) left) c.take.ensures.value (m.left y.allowed))
    (s.counted, s.holds) in
    record { counted = k.0; holds = k.1; folder = λ told. s.folder (sym made.tells ∙ told) }

pub returns-in_err-begun-clause-lists : goal.returns-in_err-begun-clause-lists
returns-in_err-begun-clause-lists g c =
    let s = c.args.self.now in
    let t = g.K.Kernel.told s.kernel in
    let new = g.K.Kernel.told c.begin-begun.new.kernel in
    let r = g.R.Recorder.told s.recorder in
    let made = on_err _ c.begin-begun.result _ c.in_err-begun.was c.begin-begun.ensures.err in
    let failed = on_err _ c.begin-begun.result _ c.in_err-begun.was c.ended_of.ensures.err in
    let noted = takes (draft_begin c.args.name.now) c.ended_of.result c.in-Ok.before t new r
    (g.R.Recorder.told c.enter_call-begun.new.recorder) (g.R.Recorder.told c.end_call.new.recorder) made.tells
    c.in-Ok.ensures.made c.enter_call-begun.ensures.tells c.enter_call-begun.ensures.notes c.in-Ok.ensures.begun
    c.end_call.ensures.tells c.end_call.ensures.noted in
    let q = err_from_is_err_and c.from_residual.result c.from_residual.ensures.1 in
    rw q.1
    (lists_lost (BreaksBeginAt (volume t) c.args.name.now) (draft_begin c.args.name.now) c.ended_of.result t new r
    (g.R.Recorder.told c.end_call.new.recorder) made noted _ (draft_begin c.args.name.now)
    (ap is_well failed) refl s.counted)

pub invariant_of-self-2 : goal.invariant_of-self-2
invariant_of-self-2 g c =
    let s = c.args.self.now in
    let t = g.K.Kernel.told s.kernel in
    let new = g.K.Kernel.told c.begin-begun.new.kernel in
    let r = g.R.Recorder.told s.recorder in
    let m = c.may_begin-is_allowed.ensures in
    let y = c.in-Ok.ensures in
    let left = option_map (λ l. string_bytes l) c.may_begin-is_allowed.new.left in
    let q = c.in_ok-begun.field-0 in
    let made = if_ok (λ z. MadeBy (Begins (volume t) c.args.name.now (g.K.Kernel.number z.file)) t new)
    c.begin-begun.result q
    c.in_ok-begun.was c.begin-begun.ensures.ok in
    let done = on_ok _ c.begin-begun.result _ c.in_ok-begun.was c.ended_of.ensures.ok in
    let fresh = if_ok (λ z. (z.is_firm ≡ false) × (z.is_lost ≡ false)) c.begin-begun.result q c.in_ok-begun.was
    c.begin-begun.ensures.fresh in
    let named = if_ok (λ z. string_bytes z.name ≡ c.args.name.now) c.begin-begun.result q c.in_ok-begun.was
    c.begin-begun.ensures.name in
    let noted = takes (draft_begin c.args.name.now) c.ended_of.result c.in-Ok.before t new r
    (g.R.Recorder.told c.enter_call-begun.new.recorder) (g.R.Recorder.told c.end_call.new.recorder) made.tells
    c.in-Ok.ensures.made c.enter_call-begun.ensures.tells c.enter_call-begun.ensures.notes c.in-Ok.ensures.begun
    c.end_call.ensures.tells c.end_call.ensures.noted in
    let k = begun_kept c.ended_of.result t new r (g.R.Recorder.told c.end_call.new.recorder) _ _ s.ahead c.args.name.now
    (g.K.Kernel.number q.file) (string_bytes q.name) q.is_firm q.is_lost left _ (λ q. g.K.Kernel.number q.file) (λ q.
    string_bytes q.name) (λ q. q.is_firm) s.draft made noted done named fresh.0 fresh.1 y.kept
    (m.image y.allowed)
    refl refl refl (subst (λ (q : Option _). Leaves (option_map (λ z. string_bytes z.name) q) (option_map (λ z.
    z.is_firm) q)
    (option_map (λ l. string_bytes l) s.left) left) c.take.ensures.value (m.left y.allowed))
    (s.counted, s.holds) in
    record { counted = k.0; holds = k.1; folder = λ told. s.folder (sym made.tells ∙ told) }

pub returns-clause-lists : goal.returns-clause-lists
returns-clause-lists g c =
    let s = c.args.self.now in
    let t = g.K.Kernel.told s.kernel in
    let new = g.K.Kernel.told c.begin-begun.new.kernel in
    let r = g.R.Recorder.told s.recorder in
    let q = c.in_ok-begun.field-0 in
    let made = if_ok (λ z. MadeBy (Begins (volume t) c.args.name.now (g.K.Kernel.number z.file)) t new)
    c.begin-begun.result q
    c.in_ok-begun.was c.begin-begun.ensures.ok in
    let done = on_ok _ c.begin-begun.result _ c.in_ok-begun.was c.ended_of.ensures.ok in
    let noted = takes (draft_begin c.args.name.now) c.ended_of.result c.in-Ok.before t new r
    (g.R.Recorder.told c.enter_call-begun.new.recorder) (g.R.Recorder.told c.end_call.new.recorder) made.tells
    c.in-Ok.ensures.made c.enter_call-begun.ensures.tells c.enter_call-begun.ensures.notes c.in-Ok.ensures.begun
    c.end_call.ensures.tells c.end_call.ensures.noted in
    lists_done (Begins (volume t) c.args.name.now (g.K.Kernel.number q.file)) (draft_begin c.args.name.now)
    c.ended_of.result t new r (g.R.Recorder.told c.end_call.new.recorder) made noted _ (draft_begin c.args.name.now)
    (ap is_well done) refl s.counted
