use Rattle.std.proofs.Common.{ap}
use Rattle.std.specs.Option.{option_map}
use Rattle.std.specs.Prelude.{string_bytes}
use Rattle.std.proofs.lemmas.Result.{err_from_is_err_and}
use Rattle.kernel_files.specs.Answers.{volume}
use Rattle.kernel_files.specs.ImageCalls.{OpensImage}
use Rattle.crash_site.specs.Calls.{image_open}
use Rattle.site_record.specs.Record.{answered, is_well}
use Rattle.folder_site.specs.Pieces.{BreaksOpenAt}
use Rattle.folder_site.proofs.Looks.{ok_given, err_given, if_given}
use Rattle.folder_site.proofs.Recording.{takes, lists_done, lists_lost}
use Rattle.folder_site.proofs.SiteReads.{no_folder}
use Rattle.folder_site.proofs.OpenRecords.{lets_image_go, breaks_kept, open_kept, open_folder_own, open_kind}
use Rattle.folder_site.proofs.folder.files.KernelFiles.open.Goals as goal

pub invariant_of-self : goal.invariant_of-self
invariant_of-self g c =
    let s = c.args.self.now in
    let e = c.enter_call-begun.ensures in
    let k = lets_image_go (g.K.Kernel.told s.kernel) (g.R.Recorder.told s.recorder)
    (g.R.Recorder.told c.enter_call-begun.new.recorder) _ _ _ s.ahead c.begin_anew.new.self e.tells e.notes
    (s.counted, s.holds) in
    record { counted = k.0; holds = k.1; folder = λ told. no_folder }

pub invariant_of-self-in-Break-1 : goal.invariant_of-self-in-Break-1
invariant_of-self-in-Break-1 g c =
    let s = c.args.self.now in
    let name = c.args.name.now in
    let make = c.args.make in
    let t = g.K.Kernel.told s.kernel in
    let new = g.K.Kernel.told c.open_image-opened.new.kernel in
    let r = g.R.Recorder.told s.recorder in
    let x = c.open_image-opened.result in
    let made = err_given x _ _ c.in_err-image.was c.open_image-opened.ensures.err in
    let failed = err_given x _ _ c.in_err-image.was c.ended_of.ensures.err in
    let noted = takes (image_open name make) c.ended_of.result c.in-Ok.before t new r
    (g.R.Recorder.told c.enter_call-begun.new.recorder) (g.R.Recorder.told c.end_call.new.recorder) made.tells
    c.in-Ok.ensures.made c.enter_call-begun.ensures.tells c.enter_call-begun.ensures.notes c.in-Ok.ensures.begun
    c.end_call.ensures.tells c.end_call.ensures.noted in
    let fresh = c.may_open-is_allowed.ensures.fresh c.in-Ok.ensures.allowed in
    let apart = c.may_open-is_allowed.ensures.draft c.in-Ok.ensures.allowed in
    let k = breaks_kept name make t new r (g.R.Recorder.told c.end_call.new.recorder) c.ended_of.result _ _ s.ahead
    c.begin_anew.new.self s.ahead.room noted fresh c.in-Ok.ensures.kept apart c.begin_anew.ensures _ failed made
    (s.counted, s.holds) in
    record { counted = k.0; holds = k.1; folder = λ told. no_folder }

pub returns-in_err-image-clause-lists : goal.returns-in_err-image-clause-lists
returns-in_err-image-clause-lists g c =
    let s = c.args.self.now in
    let name = c.args.name.now in
    let make = c.args.make in
    let t = g.K.Kernel.told s.kernel in
    let new = g.K.Kernel.told c.open_image-opened.new.kernel in
    let r = g.R.Recorder.told s.recorder in
    let x = c.open_image-opened.result in
    let made = err_given x _ _ c.in_err-image.was c.open_image-opened.ensures.err in
    let failed = err_given x _ _ c.in_err-image.was c.ended_of.ensures.err in
    let noted = takes (image_open name make) c.ended_of.result c.in-Ok.before t new r
    (g.R.Recorder.told c.enter_call-begun.new.recorder) (g.R.Recorder.told c.end_call.new.recorder) made.tells
    c.in-Ok.ensures.made c.enter_call-begun.ensures.tells c.enter_call-begun.ensures.notes c.in-Ok.ensures.begun
    c.end_call.ensures.tells c.end_call.ensures.noted in
    let q = err_from_is_err_and c.from_residual.result c.from_residual.ensures.1 in
    rw q.1
    (lists_lost (BreaksOpenAt (volume t) name make) (image_open name make) c.ended_of.result t new r
    (g.R.Recorder.told c.end_call.new.recorder) made noted q.0 (image_open name make) (ap is_well failed)
    (ap (answered (image_open name make)) failed) s.counted)

pub invariant_of-self-2 : goal.invariant_of-self-2
invariant_of-self-2 g c =
    let s = c.args.self.now in
    let name = c.args.name.now in
    let make = c.args.make in
    let t = g.K.Kernel.told s.kernel in
    let new = g.K.Kernel.told c.open_image-opened.new.kernel in
    let r = g.R.Recorder.told s.recorder in
    let x = c.open_image-opened.result in
    let e = c.open_image-opened.ensures in
    let image = c.in_ok-image.image in
    let was = c.in_ok-image.was in
    let made = if_given x image _ was e.ok in
    let named = if_given x image _ was e.name in
    let done = ok_given x image _ was c.ended_of.ensures.ok in
    let noted = takes (image_open name make) c.ended_of.result c.in-Ok.before t new r
    (g.R.Recorder.told c.enter_call-begun.new.recorder) (g.R.Recorder.told c.end_call.new.recorder) made.tells
    c.in-Ok.ensures.made c.enter_call-begun.ensures.tells c.enter_call-begun.ensures.notes c.in-Ok.ensures.begun
    c.end_call.ensures.tells c.end_call.ensures.noted in
    let fresh = c.may_open-is_allowed.ensures.fresh c.in-Ok.ensures.allowed in
    let apart = c.may_open-is_allowed.ensures.draft c.in-Ok.ensures.allowed in
    let k = open_kept _ _ (λ i. g.K.Kernel.number i.file) (λ i. string_bytes i.name) (λ i. i.folder) g.K.Kernel.text name
    make image t new r (g.R.Recorder.told c.end_call.new.recorder) c.ended_of.result _ _ s.ahead c.begin_anew.new.self
    s.ahead.room noted fresh c.in-Ok.ensures.kept apart c.begin_anew.ensures done made named
    (if_given x image _ was e.found) (s.counted, s.holds) in
    record {
      counted = k.0;
      holds = k.1;
      folder = open_folder_own _ _ (λ i. g.K.Kernel.number i.file) (λ i. string_bytes i.name) (λ i. i.folder)
          g.K.Kernel.text name make _ image named (if_given x image _ was e.folder);
    }

pub returns-clause-lists : goal.returns-clause-lists
returns-clause-lists g c =
    let s = c.args.self.now in
    let name = c.args.name.now in
    let make = c.args.make in
    let t = g.K.Kernel.told s.kernel in
    let new = g.K.Kernel.told c.open_image-opened.new.kernel in
    let r = g.R.Recorder.told s.recorder in
    let x = c.open_image-opened.result in
    let image = c.in_ok-image.image in
    let made = if_given x image _ c.in_ok-image.was c.open_image-opened.ensures.ok in
    let done = ok_given x image _ c.in_ok-image.was c.ended_of.ensures.ok in
    let noted = takes (image_open name make) c.ended_of.result c.in-Ok.before t new r
    (g.R.Recorder.told c.enter_call-begun.new.recorder) (g.R.Recorder.told c.end_call.new.recorder) made.tells
    c.in-Ok.ensures.made c.enter_call-begun.ensures.tells c.enter_call-begun.ensures.notes c.in-Ok.ensures.begun
    c.end_call.ensures.tells c.end_call.ensures.noted in
    lists_done (OpensImage (volume t) name make (option_map (λ i. g.K.Kernel.number i.file) image)) (image_open name make)
    c.ended_of.result t new r (g.R.Recorder.told c.end_call.new.recorder) made noted c.kind_opened-kind.result
    (image_open name make) (ap is_well done) (ap (answered (image_open name make)) done) s.counted

pub returns-clause-kind : goal.returns-clause-kind
returns-clause-kind g c =
    let s = c.args.self.now in
    let x = c.open_image-opened.result in
    let e = c.open_image-opened.ensures in
    let image = c.in_ok-image.image in
    let was = c.in_ok-image.was in
    let k = c.kind_opened-kind.ensures in
    open_kind _ _ (λ i. g.K.Kernel.number i.file) (λ i. string_bytes i.name) (λ i. i.folder) g.K.Kernel.text
    c.args.name.now c.args.make image (λ i. i.regular) c.kind_opened-kind.result (g.K.Kernel.told s.kernel)
    (g.K.Kernel.told c.open_image-opened.new.kernel) (g.R.Recorder.told s.recorder) _ _ s.ahead c.in-Ok.ensures.kept
    s.holds (if_given x image _ was e.ok) k.regular k.absent (if_given x image _ was e.regular)
