-- The failed calls that the answers of a filling and a generating name.
use Rattle.std.proofs.Common.{◌≡◌, ℕ, ◌-◌, Bool, true, false, if◌then◌else◌, List, [], ◌∷◌, ◌++◌, map, Option, Some, None, is_none, sym, ap, ◌∙◌, inl, inr, refl, subst}
use Rattle.mapfile_text.specs.Pieces.{pieces_of}
use Rattle.crash_site.specs.declared.site.SiteCall.{SiteCall}
use Rattle.crash_site.specs.declared.site.SiteCall.TheVariants.{ImageOpen, ImageSync, MapRead, DraftBegin, DraftAppend, DraftSync, DraftPublish, MapSettle}
use Rattle.crash_site.specs.Files.{File}
use Rattle.crash_site.specs.Calls.{Call, Entry, Done as Returned, image_read, image_sync, map_read, draft_append, draft_sync}
use Rattle.crash_site.specs.CallsMade.{call_name, unanswered}
use Rattle.mapfile_save.specs.MapNames.{MapNames}
use Rattle.mapfile_save.specs.Saving.{IsNameIn, publish_calls, save_calls}
use Rattle.rescue_rules.specs.declared.stop.Stop.{Stop}
use Rattle.rescue_rules.specs.declared.stop.Stop.TheVariants.{SourceLost as InputLost, Site, LimitMet as Limited, NoMemory as NoRoom}
use Rattle.rescue_rules.specs.declared.stop.RunEnd.{RunEnd}
use Rattle.rescue_rules.specs.Setting.{Setting}
use Rattle.rescue_rules.specs.Snapshots.{Snapshot, text_of}
use Rattle.rescue_rules.specs.RunCalls.{closing_calls}
use Rattle.rescue_rules.specs.Deeds.{save_of}
use Rattle.sweep_rules.specs.Sweep.{Sweeper, Sweep, Swept, filler, generator, after_pieces, due_save, sweep_end}
use Rattle.sweep_rules.specs.SweepWork.{SweepEnds, IsSaved, IsUnsaved, IsCut, IsBroken, lost_call, sweep_calls}
use Rattle.program_promise.specs.Work.{Deeds, WorkStep, Works}
use Rattle.program_promise.proofs.AnswerLemmas.{IsCalled, IsRefused, Starved, Unopened, Broken, Refused, Came, Stopped, Went, came}
use Rattle.program_promise.proofs.GainLemmas.{broke_named}
use Rattle.ddrescue_words.specs.Options.{cluster_of}
use Rattle.ddrescue_words.specs.Command.{Command, Fill, Generate}
use Rattle.task_files.specs.declared.ending.Ending.{Ending}
use Rattle.task_files.specs.declared.ending.Ending.TheVariants.{Done, SourceFault, SourceLost, PatternUnread, SameName, SiteFault, NoMemory}
use Rattle.task_files.specs.Maps.{Found}
use Rattle.task_files.specs.Findings.{Findings}
use Rattle.ddrescue_cli.specs.Tasks.{with_did}
use Rattle.ddrescue_cli.specs.ToldParts.{asked_of}
use Rattle.task_files.specs.Refusals.{NamesRefused}
use Rattle.task_files.specs.Work.{answer_of, rescue_faults, files_rows}
use Rattle.task_files.specs.Answers.{IsGenerateCall, IsRescueCall}
use Rattle.task_sweeps.specs.Pattern.{ThenPattern, IsLost, IsShort, IsRead}
use Rattle.task_sweeps.specs.Modes.{MaySweep, ThenSweep, fill_rows, generate_rows}
use Rattle.ddrescue_cli.specs.Ddrescue.{TaskDone}
use Rattle.ddrescue_laws.specs.ModeLaws.{FillFaultsAreOfSteps, GenerateFaultsAreOfSteps, promised_fill, filling_setting, promised_generate}
use Rattle.ddrescue_cli.proofs.RowLemmas.{of_barrier}
use Rattle.ddrescue_cli.proofs.RefusalLemmas.{fill_plain, files_plain, generate_plain}

-- what holds of the names of the opening's calls, of reads of maps, and of a save's calls
record OfSteps (P : SiteCall → Type 0) : Type 0 where
  opens : P ImageOpen
  syncs : P ImageSync
  reads : P MapRead
  begins : P DraftBegin
  appends : P DraftAppend
  draft : P DraftSync
  publishes : P DraftPublish
  settles : P MapSettle

pub name_alike : (c : Call) → call_name (unanswered c) ≡ call_name c
name_alike (image_read pos asked answer) = refl
name_alike (map_read name pos asked answer) = refl
name_alike c = refl

module _ (P : SiteCall → Type 0) (ok : OfSteps P) (call : SiteCall) (earlier : Option Stop) where
  of_name : (name : SiteCall) → call ≡ name → P name → P call
  of_name name is own = subst P (sym is) own

  of_appends : (ps : List (List ℕ)) (rest : List Call) → (IsNameIn call rest → P call)
      → IsNameIn call (map draft_append ps ++ rest) → P call
  of_appends [] rest later h = later h
  of_appends (p ∷ ps) rest later (inl is) = of_name DraftAppend is ok.appends
  of_appends (p ∷ ps) rest later (inr h) = of_appends ps rest later h

  of_publish : (n : MapNames) → IsNameIn call (draft_sync ∷ publish_calls n) → P call
  of_publish n (inl is) = of_name DraftSync is ok.draft
  of_publish n (inr (inl is)) = of_name DraftPublish is ok.publishes
  of_publish n (inr (inr (inl is))) = of_name MapSettle is ok.settles
  of_publish n (inr (inr (inr h))) = absurd h

  of_save : (n : MapNames) (text : List ℕ) → IsNameIn call (save_calls n text) → P call
  of_save n text (inl is) = of_name ImageSync is ok.syncs
  of_save n text (inr (inl is)) = of_name DraftBegin is ok.begins
  of_save n text (inr (inr h)) = of_appends (pieces_of text) (draft_sync ∷ publish_calls n) (of_publish n) h

  of_closing : (there : Bool) (n : MapNames) (text : List ℕ)
      → IsNameIn call (if there then save_calls n text else image_sync ∷ []) → P call
  of_closing true n text h = of_save n text h
  of_closing false n text (inl is) = of_name ImageSync is ok.syncs
  of_closing false n text (inr h) = absurd h

  of_due : (s : Setting) (due : Option Snapshot) → IsNameIn call (save_of s due) → P call
  of_due s None h = absurd h
  of_due s (Some p) h = of_save s.names (text_of s.line p) h

  same_fault : (at : SiteCall) (before : Option Stop) → SiteFault at before ≡ SiteFault call earlier → at ≡ call
  same_fault at before is = let same : at ≡ call = cc in same

  -- of a sweep
  of_sweep : (s : Setting) (w : Sweeper) (m : Sweep) (es : List Swept) (calls : List Entry) (end : RunEnd)
      → ((e : Swept) → P (call_name (w.call e))) → SweepEnds s w m es calls end → answer_of end ≡ SiteFault call earlier
      → P call
  of_sweep s w m es calls end piece (IsSaved None by same all) is =
      absurd (let no : Done ≡ SiteFault call earlier = sym (ap answer_of same) ∙ is in cc)
  of_sweep s w m es calls end piece (IsSaved (Some InputLost) by same all) is = absurd by
  of_sweep s w m es calls end piece (IsSaved (Some (Site at)) by same all) is = absurd by
  of_sweep s w m es calls end piece (IsSaved (Some (Limited limit)) by same all) is = absurd by
  of_sweep s w m es calls end piece (IsSaved (Some NoRoom) by same all) is =
      absurd (let no : NoMemory ≡ SiteFault call earlier = sym (ap answer_of same) ∙ is in cc)
  of_sweep s w m es calls end piece (IsUnsaved stop at by same broke) is =
      let last : Snapshot = sweep_end (is_none stop) (after_pieces w m es) in
      of_closing s.has_mapfile s.names (text_of s.line last)
      (subst (λ (c : SiteCall). IsNameIn c (closing_calls s last)) (same_fault at stop (sym (ap answer_of same) ∙ is))
      (broke_named at (closing_calls s last) (map Returned (sweep_calls s w m es)) calls broke))
  of_sweep s w m es calls end piece (IsCut p q next same broke) is =
      let e : Swept = record { pos = p; len = q - p; got = []; after = 0 } in
      subst P
      (sym (name_alike (w.call e)) ∙ same_fault (call_name (lost_call w p q)) None (sym (ap answer_of same) ∙ is))
      (piece e)
  of_sweep s w m es calls end piece (IsBroken before last at split same broke) is =
      let due : Option Snapshot = due_save w (after_pieces w m before) last in
      of_due s due
      (subst (λ (c : SiteCall). IsNameIn c (save_of s due)) (same_fault at None (sym (ap answer_of same) ∙ is))
      (broke_named at (save_of s due) (map Returned (sweep_calls s w m before ++ w.call last ∷ [])) calls broke))

  of_then : (s : Setting) (w : Sweeper) (mapfile : Option File) (pieces : List Swept) (end : RunEnd)
      (lines : List (List ℕ)) (e : Ending) (d : Deeds) → ((x : Swept) → P (call_name (w.call x)))
      → e ≡ SiteFault call earlier → ThenSweep s w mapfile pieces end lines e d → P call
  of_then s w mapfile pieces end lines e d piece is h = of_may h.sweeps
    where
      of_may : MaySweep s w h.statuses h.state pieces end lines e d.gain → P call
      of_may (inl unbegun) = absurd (let no : NoMemory ≡ SiteFault call earlier = sym unbegun.0.answer ∙ is in cc)
      of_may (inr swept) =
          of_sweep s w _ swept.sweeps.events d.gain.calls end piece swept.sweeps.ends (sym swept.answer ∙ is)

  -- of rows
  of_rows : (rows : List (WorkStep Ending)) (run : Ending → Deeds → Type 0) (e : Ending) (d : Deeds)
      → e ≡ SiteFault call earlier → (IsRefused rows e → ⊥) → ((at : SiteCall) → at ≡ call → IsCalled at rows → P call)
      → ((x : Deeds) → run e x → P call) → Works rescue_faults rows run e d → P call
  of_rows rows run e d is plain called later w = of_came (came rescue_faults rows run e d w)
    where
      of_came : Came rescue_faults rows run e d → P call
      of_came (Stopped (Starved was) unread) =
          absurd (let no : NoMemory ≡ SiteFault call earlier = sym was ∙ is in cc)
      of_came (Stopped (Unopened was) unread) =
          absurd (let no : SourceFault ≡ SiteFault call earlier = sym was ∙ is in cc)
      of_came (Stopped (Broken at was here) unread) = called at (same_fault at None (sym was ∙ is)) here
      of_came (Stopped (Refused refused) unread) = absurd (plain refused)
      of_came (Went x ran reads found) = later x ran

  files_called : (makes : Bool) (c : Command) (found : Found) (limit : ℕ) (at : SiteCall) → at ≡ call
      → IsCalled at (files_rows makes c found limit) → P call
  files_called true c found limit at is (inl (inl name)) = of_name ImageOpen (sym is ∙ name) ok.opens
  files_called true c found limit at is (inl (inr none)) = absurd none
  files_called true c found limit at is (inr (inl barrier)) =
      subst P is (of_barrier P ok.settles ok.syncs at c.mapfile barrier)
  files_called true c found limit at is (inr (inr (inl name))) = of_name MapRead (sym is ∙ name) ok.reads
  files_called true c found limit at is (inr (inr (inr none))) = absurd none
  files_called false c found limit at is (inl (inl name)) = of_name ImageOpen (sym is ∙ name) ok.opens
  files_called false c found limit at is (inl (inr none)) = absurd none
  files_called false c found limit at is (inr (inl barrier)) =
      subst P is (of_barrier P ok.settles ok.syncs at c.mapfile barrier)
  files_called false c found limit at is (inr (inr (inl name))) = of_name MapRead (sym is ∙ name) ok.reads
  files_called false c found limit at is (inr (inr (inr none))) = absurd none

  unnamed : (c : Command) (e : Ending) → e ≡ SiteFault call earlier → NamesRefused c e → ⊥
  unnamed c e is refused =
      let no : SameName refused.0 refused.1 ≡ SiteFault call earlier = sym refused.3 ∙ is in cc

  of_pattern : (c : Command) (found : Found) (input_end top : ℕ) (buffer : List ℕ) (run : Ending → Deeds → Type 0)
      (e : Ending) (d : Deeds) → e ≡ SiteFault call earlier → ((x : Deeds) → run e x → P call)
      → ThenPattern (cluster_of c.options) input_end buffer (Works rescue_faults (files_rows true c found top) run) e d
      → P call
  of_pattern c found input_end top buffer run e d is later (IsLost was idle) =
      absurd (let no : SourceLost ≡ SiteFault call earlier = sym was ∙ is in cc)
  of_pattern c found input_end top buffer run e d is later (IsShort r read less was one) =
      absurd (let no : PatternUnread ≡ SiteFault call earlier = sym was ∙ is in cc)
  of_pattern c found input_end top buffer run e d is later (IsRead r more read all repeated reads next) =
      of_rows (files_rows true c found top) run e _ is
      (λ refused. (files_plain true c found top e refused).call call earlier is) (files_called true c found top) later next

fill_steps : OfSteps IsRescueCall
fill_steps = record { opens = tt; syncs = tt; reads = tt; begins = tt; appends = tt; draft = tt; publishes = tt; settles = tt }

generate_steps : OfSteps IsGenerateCall
generate_steps =
    record { opens = tt; syncs = tt; reads = tt; begins = tt; appends = tt; draft = tt; publishes = tt; settles = tt }

fill_called : (c : Command) (found : Found) (input_end : ℕ) (call : SiteCall) (earlier : Option Stop) (at : SiteCall)
    → at ≡ call → IsCalled at (fill_rows c found input_end) → IsRescueCall call
fill_called c found input_end call earlier at is (inl name) =
    of_name IsRescueCall fill_steps call earlier MapRead (sym is ∙ name) tt
fill_called c found input_end call earlier at is (inr none) = absurd none

pub fill_faults_are_of_steps : FillFaultsAreOfSteps
fill_faults_are_of_steps t types c d call earlier asks is =
    let p : TaskDone (Fill types c) t = promised_fill d asks in
    let o : Findings = with_did p.outside p.did in
    let s : Setting = filling_setting t p in
    of_rows IsRescueCall fill_steps call earlier (fill_rows c o.found o.end) _ t.answer o.did is
    (λ refused. (fill_plain c o.found o.end t.answer (unnamed IsRescueCall fill_steps call earlier c t.answer is)
    refused).call call earlier is) (fill_called c o.found o.end call earlier)
    (λ x read. of_pattern IsRescueCall fill_steps call earlier c o.found o.end p.outside.top p.outside.buffer _ t.answer x is
    (λ y swept. of_then IsRescueCall fill_steps call earlier s (filler s types p.outside.buffer) o.found.mapfile p.outside.pieces p.outside.swept
    o.lines t.answer y (λ e. tt) is swept) read) p.work

generate_called : (c : Command) (found : Found) (input_end : ℕ) (call : SiteCall) (earlier : Option Stop)
    (at : SiteCall) → at ≡ call → IsCalled at (generate_rows c found input_end) → IsGenerateCall call
generate_called c found input_end call earlier at is (inl name) =
    of_name IsGenerateCall generate_steps call earlier MapRead (sym is ∙ name) tt
generate_called c found input_end call earlier at is (inr files) =
    files_called IsGenerateCall generate_steps call earlier false c found input_end at is files

pub generate_faults_are_of_steps : GenerateFaultsAreOfSteps
generate_faults_are_of_steps t c d call earlier asks is =
    let p : TaskDone (Generate c) t = promised_generate d asks in
    let o : Findings = with_did p.outside p.did in
    let s : Setting = asked_of c t o in
    of_rows IsGenerateCall generate_steps call earlier (generate_rows c o.found o.end) _ t.answer o.did is
    (λ refused. (generate_plain c o.found o.end t.answer
    (unnamed IsGenerateCall generate_steps call earlier c t.answer is) refused).call call earlier is)
    (generate_called c o.found o.end call earlier)
    (λ x swept. of_then IsGenerateCall generate_steps call earlier s (generator s) o.found.mapfile p.outside.pieces p.outside.swept o.lines
    t.answer x (λ e. tt) is swept) p.work
