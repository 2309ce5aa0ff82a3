-- Nothing else ends a filling or a generating than its end, a refusal, a failure or lack of memory.
use Rattle.std.proofs.Common.{◌≡◌, ◌≢◌, ℕ, true, List, Option, Some, None, inl, inr, ap, ◌∙◌}
use Rattle.block_list.specs.declared.types.TypeSet.{TypeSet}
use Rattle.crash_site.specs.Files.{File}
use Rattle.crash_site.specs.Calls.{Entry}
use Rattle.crash_site.specs.CallsMade.{call_name}
use Rattle.option_words.specs.Words.{command_line}
use Rattle.rescue_rules.specs.declared.stop.Stop.TheVariants.{SourceLost as InputLost, Site, LimitMet as Limited, NoMemory as NoRoom}
use Rattle.rescue_rules.specs.declared.stop.RunEnd.{RunEnd}
use Rattle.rescue_rules.specs.Setting.{Setting}
use Rattle.sweep_rules.specs.Sweep.{Sweeper, Sweep, Swept, filler, generator}
use Rattle.sweep_rules.specs.SweepWork.{SweepEnds, IsSaved, IsUnsaved, IsCut, IsBroken, lost_call}
use Rattle.program_promise.specs.Work.{Deeds, Works}
use Rattle.program_promise.specs.Verdicts.{RefuseNothing}
use Rattle.program_promise.proofs.VerdictLemmas.{goes_to_run}
use Rattle.ddrescue_words.specs.Options.{cluster_of}
use Rattle.ddrescue_words.specs.Command.{Command, Fill, Generate}
use Rattle.task_files.specs.declared.ending.Ending.{Ending}
use Rattle.task_files.specs.declared.ending.Ending.TheVariants.{Done, PatternUnread}
use Rattle.task_files.specs.Names.{program_name}
use Rattle.ddrescue_cli.specs.Told.{Told}
use Rattle.ddrescue_cli.specs.Tasks.{TaskOutside, with_did}
use Rattle.ddrescue_cli.specs.ToldParts.{asked_of}
use Rattle.task_files.specs.Work.{answer_of, rescue_faults, files_rows}
use Rattle.task_sweeps.specs.Pattern.{ThenPattern, IsLost, IsShort, IsRead}
use Rattle.task_sweeps.specs.Modes.{MaySweep, ThenSweep, fill_rows, fill_setting, generate_rows}
use Rattle.ddrescue_cli.specs.Ddrescue.{TaskDone}
use Rattle.ddrescue_laws.specs.ModeLaws.{FillIsDoneUnless, FillsUnrefused, GenerateIsDoneUnless, promised_fill, promised_generate}
use Rattle.ddrescue_laws.proofs.CompleteLemmas.{caused, IsNoFault, no_faults, left_itself}

-- how a sweep ends by itself
ends_itself : (s : Setting) (w : Sweeper) (m : Sweep) (es : List Swept) (calls : List Entry) (e : Ending) (end : RunEnd)
    → e ≡ answer_of end → SweepEnds s w m es calls end → IsNoFault e → e ≡ Done
ends_itself s w m es calls e end is (IsSaved None by same all) v = is ∙ ap answer_of same
ends_itself s w m es calls e end is (IsSaved (Some InputLost) by same all) v = absurd by
ends_itself s w m es calls e end is (IsSaved (Some (Site call)) by same all) v = absurd by
ends_itself s w m es calls e end is (IsSaved (Some (Limited limit)) by same all) v = absurd by
ends_itself s w m es calls e end is (IsSaved (Some NoRoom) by same all) v = absurd (v.room (is ∙ ap answer_of same))
ends_itself s w m es calls e end is (IsUnsaved stop call by same broke) v =
    absurd (v.call call stop (is ∙ ap answer_of same))
ends_itself s w m es calls e end is (IsCut p q piece same broke) v =
    absurd (v.call (call_name (lost_call w p q)) None (is ∙ ap answer_of same))
ends_itself s w m es calls e end is (IsBroken before last call split same broke) v =
    absurd (v.call call None (is ∙ ap answer_of same))

swept_itself : (s : Setting) (w : Sweeper) (mapfile : Option File) (pieces : List Swept) (end : RunEnd)
    (lines : List (List ℕ)) (e : Ending) (d : Deeds) → IsNoFault e → ThenSweep s w mapfile pieces end lines e d → e ≡ Done
swept_itself s w mapfile pieces end lines e d v then = itself then.sweeps
  where
    itself : MaySweep s w then.statuses then.state pieces end lines e d.gain → e ≡ Done
    itself (inl unbegun) = absurd (v.room unbegun.0.answer)
    itself (inr swept) = ends_itself s w _ swept.sweeps.events d.gain.calls e end swept.answer swept.sweeps.ends v

-- after the pattern
pattern_itself : (c : Command) (o : TaskOutside) (buffer : List ℕ) (run : Ending → Deeds → Type 0) (e : Ending)
    (d : Deeds) → FillsUnrefused c o → e ≢ PatternUnread → IsNoFault e → ((x : Deeds) → run e x → e ≡ Done)
    → ThenPattern (cluster_of c.options) o.end buffer (Works rescue_faults (files_rows true c o.found o.top) run) e d
    → e ≡ Done
pattern_itself c o buffer run e d pass short v itself (IsLost is idle) = absurd (v.kept is)
pattern_itself c o buffer run e d pass short v itself (IsShort r read less is one) = absurd (short is)
pattern_itself c o buffer run e d pass short v itself (IsRead r more read all repeated reads next) =
    let ran : (x : Deeds) × run e x =
    goes_to_run rescue_faults IsNoFault no_faults (files_rows true c o.found o.top) run pass.files e _ next v in
    itself ran.0 ran.1

filled_itself : (t : Told) (types : TypeSet) (c : Command) (p : TaskDone (Fill types c) t)
    → FillsUnrefused c p.outside → t.answer ≢ PatternUnread → IsNoFault t.answer → t.answer ≡ Done
filled_itself t types c p pass short v =
    let o : TaskOutside = p.outside in
    let s : Setting = fill_setting c (command_line program_name t.words) o.top o.maps in
    let sweep : Ending → Deeds → Type 0 =
    ThenSweep s (filler s types o.buffer) o.found.mapfile o.pieces o.swept o.lines in
    let read : Ending → Deeds → Type 0 =
    ThenPattern (cluster_of c.options) o.end o.buffer (Works rescue_faults (files_rows true c o.found o.top) sweep) in
    let ran : (x : Deeds) × read t.answer x =
    goes_to_run rescue_faults IsNoFault no_faults (fill_rows c o.found o.end) read pass.pattern t.answer p.did p.work v in
    pattern_itself c o o.buffer sweep t.answer ran.0 pass short v
    (λ x swept. swept_itself s (filler s types o.buffer) o.found.mapfile o.pieces o.swept o.lines t.answer x v swept) ran.1

pub fill_is_done_unless : FillIsDoneUnless
fill_is_done_unless t types c d asks failed pass short room =
    left_itself (λ (e : Ending). t.answer ≡ Done) t t.answer failed (filled_itself t types c (promised_fill d asks) pass short)
    (caused t d) room

generated_itself : (t : Told) (c : Command) (p : TaskDone (Generate c) t)
    → RefuseNothing (generate_rows c p.outside.found p.outside.end) → IsNoFault t.answer → t.answer ≡ Done
generated_itself t c p pass v =
    let o : TaskOutside = p.outside in
    let s : Setting = asked_of c t (with_did o p.did) in
    let sweep : Ending → Deeds → Type 0 = ThenSweep s (generator s) o.found.mapfile o.pieces o.swept o.lines in
    let ran : (x : Deeds) × sweep t.answer x =
    goes_to_run rescue_faults IsNoFault no_faults (generate_rows c o.found o.end) sweep pass t.answer p.did p.work v in
    swept_itself s (generator s) o.found.mapfile o.pieces o.swept o.lines t.answer ran.0 v ran.1

pub generate_is_done_unless : GenerateIsDoneUnless
generate_is_done_unless t c d asks failed pass room =
    left_itself (λ (e : Ending). t.answer ≡ Done) t t.answer failed (generated_itself t c (promised_generate d asks) pass)
    (caused t d)
    room
