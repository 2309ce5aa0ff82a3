-- Nothing else ends a rescue than its end, a limit, a refusal, a failure or lack of memory.
use Rattle.std.proofs.Common.{◌≡◌, ◌≢◌, ℕ, List, Option, Some, None, inl, inr, refl, sym, ap, ◌∙◌}
use Rattle.fault_count.specs.Counts.{raised}
use Rattle.fault_count.proofs.CountLemmas.{not_risen}
use Rattle.block_list.specs.declared.status.Status.{Status}
use Rattle.mapfile_text.specs.declared.state.MapState.{MapState}
use Rattle.crash_site.specs.declared.site.SiteCall.{SiteCall}
use Rattle.crash_site.specs.Calls.{Entry}
use Rattle.rescue_rules.specs.declared.stop.Limit.{Limit}
use Rattle.rescue_rules.specs.declared.stop.Stop.{Stop}
use Rattle.rescue_rules.specs.declared.stop.Stop.TheVariants.{SourceLost as InputLost, Site, LimitMet as Limited, NoMemory as NoRoom}
use Rattle.rescue_rules.specs.declared.stop.RunEnd.{RunEnd}
use Rattle.rescue_rules.specs.declared.stop.RunEnd.TheVariants.{Done as Finished, Stopped, SaveFailed}
use Rattle.rescue_rules.specs.Setting.{Setting}
use Rattle.rescue_rules.specs.Machine.{Machine}
use Rattle.rescue_rules.specs.Step.{Event, limit_met}
use Rattle.rescue_rules.specs.Moves.{state_after}
use Rattle.rescue_rules.specs.Work.{Gain, Ends, IsSaved, IsUnsaved, IsBroken}
use Rattle.rescue_rules.proofs.LimitLemmas.{none_met}
use Rattle.program_promise.specs.Work.{Deeds}
use Rattle.program_promise.specs.Kinds.{Failed}
use Rattle.program_promise.specs.Causes.{changes_of}
use Rattle.program_promise.specs.Verdicts.{AreVerdicts}
use Rattle.program_promise.proofs.VerdictLemmas.{goes_to_run}
use Rattle.ddrescue_words.specs.declared.options.Options.{Options}
use Rattle.ddrescue_words.specs.Command.{Command, Rescue}
use Rattle.task_files.specs.declared.ending.Ending.{Ending}
use Rattle.task_files.specs.declared.ending.Ending.TheVariants.{SourceFault, SourceLost, SiteFault, NoMemory}
use Rattle.task_files.specs.Answers.{Causes, failure_after}
use Rattle.task_files.specs.Findings.{Findings}
use Rattle.ddrescue_cli.specs.Tasks.{with_did}
use Rattle.ddrescue_cli.specs.Told.{Told}
use Rattle.ddrescue_cli.specs.ToldParts.{asked_of}
use Rattle.task_files.specs.Work.{Rescues, RunsOver, answer_of, rescue_faults, rescue_rows}
use Rattle.ddrescue_cli.specs.Ddrescue.{Ddrescue, TaskDone}
use Rattle.ddrescue_laws.specs.Laws.{IsDoneOrLimited, NothingFailed, NothingIsRefused, IsDoneUnless}

-- no answer of a failure, nor of lack of memory
pub record IsNoFault (e : Ending) : Type 0 where
  pub opened : e ≢ SourceFault
  pub kept : e ≢ SourceLost
  pub room : e ≢ NoMemory
  pub call : (call : SiteCall) (earlier : Option Stop) → e ≢ SiteFault call earlier

pub no_faults : AreVerdicts rescue_faults IsNoFault
no_faults = record { memory = λ v. v.room refl; input = λ v. v.opened refl; call = λ call v. v.call call None refl }

-- a run that ended at a limit has met it
limit_of : (s : Setting) (m : Machine) (events : List Event) (calls : List Entry) (end : RunEnd) (limit : Limit)
    → end ≡ Stopped (Limited limit) → Ends s m events calls end → limit_met s (state_after s m events) ≡ Some limit
limit_of s m events calls end limit is (IsSaved None by same all) =
    absurd (let no : Stopped (Limited limit) ≡ Finished = sym is ∙ same in cc)
limit_of s m events calls end limit is (IsSaved (Some InputLost) by same all) =
    absurd (let no : Stopped (Limited limit) ≡ Stopped InputLost = sym is ∙ same in cc)
limit_of s m events calls end limit is (IsSaved (Some (Site call)) by same all) = absurd by
limit_of s m events calls end limit is (IsSaved (Some (Limited other)) by same all) =
    let one : Stopped (Limited limit) ≡ Stopped (Limited other) = sym is ∙ same in
    let alike : other ≡ limit = cc in
    by ∙ ap Some alike
limit_of s m events calls end limit is (IsSaved (Some NoRoom) by same all) =
    absurd (let no : Stopped (Limited limit) ≡ Stopped NoRoom = sym is ∙ same in cc)
limit_of s m events calls end limit is (IsUnsaved stop call by same broke) =
    absurd (let no : Stopped (Limited limit) ≡ SaveFailed call stop = sym is ∙ same in cc)
limit_of s m events calls end limit is (IsBroken before last call split same broke) =
    absurd (let no : Stopped (Limited limit) ≡ Stopped (Site call) = sym is ∙ same in cc)

-- how a run ends by itself
ends_itself : (o : Options) (s : Setting) (m : Machine) (events : List Event) (calls : List Entry) (e : Ending)
    (end : RunEnd) → s.limits ≡ o.limits → e ≡ answer_of end → Ends s m events calls end → IsNoFault e
    → IsDoneOrLimited o e
ends_itself o s m events calls e Finished set is ends v = record { ends = inl is; unlimited = λ none. is }
ends_itself o s m events calls e (Stopped InputLost) set is ends v = absurd (v.kept is)
ends_itself o s m events calls e (Stopped (Site call)) set is ends v = absurd (v.call call None is)
ends_itself o s m events calls e (Stopped (Limited limit)) set is ends v = record {
  ends = inr (limit, is);
  unlimited = λ none.
      let met : limit_met s (state_after s m events) ≡ Some limit =
      limit_of s m events calls (Stopped (Limited limit)) limit refl ends in
      let no : None ≡ Some limit = sym (none_met s (state_after s m events) (set ∙ none)) ∙ met in
      absurd (cc);
}
ends_itself o s m events calls e (Stopped NoRoom) set is ends v = absurd (v.room is)
ends_itself o s m events calls e (SaveFailed call earlier) set is ends v = absurd (v.call call earlier is)

ran_itself : (o : Options) (s : Setting) (statuses : List Status) (state : Option MapState) (lines : List (List ℕ))
    (e : Ending) (g : Gain) → s.limits ≡ o.limits → RunsOver s statuses state lines e g → IsNoFault e
    → IsDoneOrLimited o e
ran_itself o s statuses state lines e g set (inl unbegun) v = absurd (v.room unbegun.answer)
ran_itself o s statuses state lines e g set (inr ran) v =
    ends_itself o s _ _ g.calls e ran.end set ran.answer ran.runs.ends v

-- where nothing is refused an answer of no fault is that of a run
passed_itself : (t : Told) (c : Command) (p : TaskDone (Rescue c) t) → NothingIsRefused c (with_did p.outside p.did) → IsNoFault t.answer
    → IsDoneOrLimited c.options t.answer
passed_itself t c p pass v =
    let o : Findings = with_did p.outside p.did in
    let run : Ending → Deeds → Type 0 = Rescues (asked_of c t o) o.found.mapfile o.lines in
    let ran : (did : Deeds) × run t.answer did =
    goes_to_run rescue_faults IsNoFault no_faults (rescue_rows c o.found o.end) run pass t.answer o.did p.work v in
    ran_itself c.options (asked_of c t o) ran.1.1.0 ran.1.1.1 o.lines t.answer ran.0.gain refl ran.1.1.3 v

-- a call that failed is counted, whatever was before it
call_rises : (earlier : Option Stop) (n : ℕ) → (changes_of (Failed (failure_after earlier))).calls n ≡ raised n
call_rises None n = refl
call_rises (Some InputLost) n = refl
call_rises (Some stop) n = refl

-- the cause of an answer
pub caused : (t : Told) → Ddrescue t → Causes t.answer t.before.source t.after.source t.before.site t.after.site
caused t d = record {
  opens = d.does.cause.opens;
  reads = d.does.cause.reads;
  calls = d.does.cause.calls;
  also = d.does.also;
}

-- what is left for an answer
pub left_itself : (P : Ending → Type 0) (t : Told) (e : Ending) → NothingFailed t → (IsNoFault e → P e)
    → Causes e t.before.source t.after.source t.before.site t.after.site → e ≢ NoMemory → P e
left_itself P t SourceFault f itself cause room =
    absurd (not_risen t.before.source.faults t.after.source.faults f.opens_count f.opens cause.opens)
left_itself P t SourceLost f itself cause room =
    absurd (not_risen t.before.source.losses t.after.source.losses f.reads_count f.reads cause.reads)
left_itself P t (SiteFault call earlier) f itself cause room =
    absurd (not_risen t.before.site.faults t.after.site.faults f.calls_count f.calls (cause.calls ∙ call_rises earlier t.before.site.faults))
left_itself P t NoMemory f itself cause room = absurd (room refl)
left_itself P t e f itself cause room =
    itself (record { opened = λ is. cc; kept = λ is. cc; room = λ is. cc; call = λ call earlier is. cc })

pub is_done_unless : IsDoneUnless
is_done_unless t c d asks failed pass room =
    left_itself (λ (e : Ending). IsDoneOrLimited c.options e) t t.answer failed
    (passed_itself t c (d.does.asked_for (Rescue c) asks) pass) (caused t d) room
