-- What the answer of a rescue tells: which call failed, and how often the clock was read.
use Rattle.std.proofs.Common.{◌≡◌, ◌⊎◌, inl, inr, ⊎_elim, ℕ, ◌+◌, ◌*◌, List, [], ◌∷◌, ◌++◌, length, drop, map, Option, Some, None, refl, sym, ap, ◌∙◌, subst, arith}
use Rattle.std.proofs.lemmas.List.{length-drop, map-append}
use Rattle.fault_count.specs.Counts.{raised}
use Rattle.faulty_source.specs.Journal.{Reading}
use Rattle.crash_site.specs.declared.site.SiteCall.{SiteCall}
use Rattle.crash_site.specs.declared.site.SiteCall.TheVariants.{MapRead}
use Rattle.crash_site.specs.Files.{File}
use Rattle.crash_site.specs.Calls.{Call, Entry, Done as Returned, Failed}
use Rattle.crash_site.specs.CallsMade.{BrokeAt, call_name}
use Rattle.rescue_rules.specs.declared.stop.Stop.{Stop}
use Rattle.rescue_rules.specs.declared.stop.Stop.TheVariants.{SourceLost}
use Rattle.rescue_rules.specs.declared.stop.RunEnd.{RunEnd}
use Rattle.rescue_rules.specs.Setting.{Setting}
use Rattle.rescue_rules.specs.Machine.{Machine}
use Rattle.rescue_rules.specs.Step.{Event}
use Rattle.rescue_rules.specs.Moves.{move_of, state_after}
use Rattle.rescue_rules.specs.Events.{events_of, reads_of}
use Rattle.rescue_rules.specs.RunCalls.{move_calls, run_calls, end_calls}
use Rattle.rescue_rules.specs.Work.{begins, events_in, lost_reads, Ends, IsSaved, IsUnsaved, IsBroken}
use Rattle.rescue_rules.proofs.GoesLemmas.{timed}
use Rattle.program_promise.specs.Causes.{changes_of}
use Rattle.program_promise.specs.Kinds.{Failed as FailedAt}
use Rattle.program_promise.specs.Program.{kind_of}
use Rattle.program_promise.specs.Work.{Deeds, WorkStep, Take, Look, Open, Make, Read, Works, with_calls, with_opens}
use Rattle.task_files.specs.declared.ending.Ending.{Ending}
use Rattle.task_files.specs.declared.ending.Ending.TheVariants.{SiteFault}
use Rattle.task_files.specs.Answers.{failure_after}
use Rattle.task_files.specs.Work.{answer_of, Rescues, rescue_faults, rescue_rows}
use Rattle.ddrescue_cli.specs.Ddrescue.{rescue_program}
use Rattle.ddrescue_cli.specs.ToldParts.{asked_of}
use Rattle.rescue_safety.specs.Rescue.{Rescue}
use Rattle.rescue_safety.proofs.SafeLemmas.{p, w, g, calls_are, seen_alone}
use Rattle.saved_laws.specs.Laws.{AnsweredCallIsCounted, EachReadIsAnEvent, EachReadIsTimed, FailedCallIsAnswered}
use Rattle.saved_laws.proofs.LossBounded.{times_are}
use Rattle.saved_laws.proofs.ReadsWaited.{never_done, last_failed}

-- each of these calls that failed is the one that the answer names
abbrev Answered : Ending → List Entry → Type 0
Answered e calls =
    (before : List Entry) (call : Call) (steps : ℕ) (after : List Entry) → calls ≡ before ++ Failed call steps ∷ after
    → (earlier : Option Stop) × (e ≡ SiteFault (call_name call) earlier)

-- the clock was read as often as a run reads it that ended so, or nothing was read
abbrev Timed : Ending → List Reading → (times : List ℕ) → Type 0
Timed e reads times =
    ((reads ≡ []) × (times ≡ []))
    ⊎ ((end : RunEnd) × (e ≡ answer_of end) × (length times ≡ 1 + 2 * length reads + lost_reads end))

-- what an answer tells of what was done
record Tells (e : Ending) (d : Deeds) : Type 0 where
  calls : Answered e d.gain.calls
  times : Timed e d.gain.reads d.gain.times

-- ---- calls

all_returned : (e : Ending) (xs : List Call) (calls : List Entry) → calls ≡ map Returned xs → Answered e calls
all_returned e xs calls is before call steps after split =
    absurd (never_done xs before after call steps (sym is ∙ split))

past_returned : (xs : List Call) (calls before after : List Entry) (call : Call) (steps : ℕ)
    → map Returned xs ++ calls ≡ before ++ Failed call steps ∷ after
    → (more : List Entry) × (calls ≡ more ++ Failed call steps ∷ after)
past_returned [] calls before after call steps is = (before, is)
past_returned (x ∷ xs) calls [] after call steps is = absurd (cc)
past_returned (x ∷ xs) calls (e ∷ before) after call steps is =
    let tail : map Returned xs ++ calls ≡ before ++ Failed call steps ∷ after = cc in
    past_returned xs calls before after call steps tail

answered_past : (e : Ending) (xs : List Call) (calls all : List Entry) → all ≡ map Returned xs ++ calls
    → Answered e calls → Answered e all
answered_past e xs calls all is each before call steps after split =
    let part = past_returned xs calls before after call steps (sym is ∙ split) in each part.0 call steps after part.1

call_is : (c d : Call) (n k : ℕ) → Failed c n ≡ Failed d k → c ≡ d
call_is c d n k is = cc

answered_broke : (e : Ending) (at : SiteCall) (earlier : Option Stop) → e ≡ SiteFault at earlier
    → (calls xs : List Call) (new : List Entry) → BrokeAt at calls (map Returned xs) new → Answered e new
answered_broke e at earlier is [] xs new broke = absurd broke
answered_broke e at earlier is (c ∷ cs) xs new (inl (name, inl (n, same))) =
    λ before call steps after split.
    let last = last_failed xs c n before after call steps (sym same ∙ split) in (
      earlier,
      is ∙ ap (λ (a : SiteCall). SiteFault a earlier) (name ∙ ap call_name (call_is c call n steps last.1)),
    )
answered_broke e at earlier is (c ∷ cs) xs new (inl (name, inr same)) = all_returned e xs new same
answered_broke e at earlier is (c ∷ cs) xs new (inr more) =
    answered_broke e at earlier is cs (xs ++ c ∷ []) new
    (subst (λ (l : List Entry). BrokeAt at cs l new) (sym (map-append Returned xs (c ∷ []))) more)

-- ---- work

untouched : (e : Ending) (d : Deeds) → d.gain.calls ≡ [] → d.gain.reads ≡ [] → d.gain.times ≡ [] → Tells e d
untouched e d calls reads times = record { calls = all_returned e [] d.gain.calls calls; times = inl (reads, times) }

module _ (run : Ending → Deeds → Type 0) (e : Ending) (run_tells : (d : Deeds) → run e d → Tells e d) where
  works_tell : (steps : List (WorkStep Ending)) (d : Deeds) → Works rescue_faults steps run e d → Tells e d
  works_tell [] d w = run_tells d w
  works_tell (Take ∷ more) d (inl (is, idle)) = untouched e d idle.gain.calls idle.gain.reads idle.gain.times
  works_tell (Take ∷ more) d (inr w) = works_tell more d w
  works_tell (Look refuses ∷ more) d (inl (refused, idle)) =
      untouched e d idle.gain.calls idle.gain.reads idle.gain.times
  works_tell (Look refuses ∷ more) d (inr (accepted, w)) = works_tell more d w
  works_tell (Open name ∷ more) d (inl (is, opens, none)) = untouched e d none.calls none.reads none.times
  works_tell (Open name ∷ more) d (inr (rest, is, w)) =
      let t : Tells e (with_opens d rest) = works_tell more (with_opens d rest) w in
      record { calls = t.calls; times = t.times }
  works_tell (Make calls ∷ more) d (inl (at, is, broke, only)) = record {
    calls = answered_broke e at None is calls [] d.gain.calls broke;
    times = inl (only.reads, only.times);
  }
  works_tell (Make calls ∷ more) d (inr (rest, is, w)) =
      let t : Tells e (with_calls d rest) = works_tell more (with_calls d rest) w in
      record { calls = answered_past e calls rest d.gain.calls is t.calls; times = t.times }
  works_tell (Read None file ∷ more) d (inl (is, idle)) = untouched e d idle.gain.calls idle.gain.reads idle.gain.times
  works_tell (Read None file ∷ more) d (inr (none, w)) = works_tell more d w
  works_tell (Read (Some name) file ∷ more) d (inl (load, is, begins, broke, only)) = record {
    calls = answered_broke e MapRead None is load [] d.gain.calls broke;
    times = inl (only.reads, only.times);
  }
  works_tell (Read (Some name) file ∷ more) d (inr (inl (load, is, begins, all, only))) = record {
    calls = all_returned e load d.gain.calls all;
    times = inl (only.reads, only.times);
  }
  works_tell (Read (Some name) file ∷ more) d (inr (inr (load, rest, loaded, is, w))) =
      let t : Tells e (with_calls d rest) = works_tell more (with_calls d rest) w in
      record { calls = answered_past e load rest d.gain.calls is t.calls; times = t.times }

-- ---- a rescue

ends_answered : (s : Setting) (m : Machine) (events : List Event) (calls : List Entry) (e : Ending) (end : RunEnd)
    → e ≡ answer_of end → Ends s m events calls end → Answered e calls
ends_answered s m events calls e end is (IsSaved stop ends same all) =
    all_returned e (run_calls s m events ++ end_calls s m events) calls all
ends_answered s m events calls e end is (IsUnsaved stop call ends same broke) =
    answered_broke e call stop (is ∙ ap answer_of same) (end_calls s m events) (run_calls s m events) calls broke
ends_answered s m events calls e end is (IsBroken before last call split same broke) =
    answered_broke e call None (is ∙ ap answer_of same) (move_calls s (move_of s (state_after s m before) last))
    (run_calls s m before) calls broke

rescues_tell : (s : Setting) (mapfile : Option File) (lines : List (List ℕ)) (e : Ending) (d : Deeds)
    → Rescues s mapfile lines e d → Tells e d
rescues_tell s mapfile lines e d (opens, (statuses, state, stands, inl none)) =
    untouched e d none.calls none.reads none.times
rescues_tell s mapfile lines e d (opens, (statuses, state, stands, inr ran)) = record {
  calls = ends_answered s (begins s statuses state d.gain) (events_in d.gain) d.gain.calls e ran.end ran.answer
      ran.runs.ends;
  times = inr (ran.end, ran.answer, ran.runs.times);
}

answer_tells : (r : Rescue) → Tells r.did.call.told.answer (w r).did
answer_tells r =
    let s : Setting = asked_of r.command r.did.call.told (w r) in
    let e : Ending = r.did.call.told.answer in
    works_tell (Rescues s (w r).found.mapfile (w r).lines) e
    (λ d run. rescues_tell s (w r).found.mapfile (w r).lines e d run)
    (rescue_rows r.command (w r).found (w r).end) (w r).did (p r).work

pub failed_call_is_answered : FailedCallIsAnswered
failed_call_is_answered r before call steps after is =
    (answer_tells r).calls before call steps after (sym (calls_are r) ∙ is)

call_rises : (earlier : Option Stop) (n : ℕ) → (changes_of (FailedAt (failure_after earlier))).calls n ≡ raised n
call_rises None n = refl
call_rises (Some SourceLost) n = refl
call_rises (Some stop) n = refl

pub answered_call_is_counted : AnsweredCallIsCounted
answered_call_is_counted r call earlier is =
    let n : ℕ = r.did.call.told.before.site.faults in
    r.did.call.promised.does.cause.calls
    ∙ ap (λ (e : Ending). (changes_of (kind_of rescue_program e)).calls n) is ∙ call_rises earlier n

pub each_read_is_timed : EachReadIsTimed
each_read_is_timed r reads times seen tells readings =
    let e : Ending = r.did.call.told.answer in
    subst (λ (rs : List Reading). Timed e rs times) (sym (seen_alone r reads seen))
    (subst (λ (ts : List ℕ). Timed e (g r).reads ts) (sym (times_are r times tells readings)) (answer_tells r).times)

pub each_read_is_an_event : EachReadIsAnEvent
each_read_is_an_event r reads times seen tells readings =
    ⊎_elim
    (λ (none : (reads ≡ []) × (times ≡ [])).
    ap (λ (rs : List Reading). reads_of (events_of rs times)) none.0 ∙ sym none.0)
    (λ (ran : (end : RunEnd) × (r.did.call.told.answer ≡ answer_of end)
    × (length times ≡ 1 + 2 * length reads + lost_reads end)).
    timed reads (drop 1 times) (omega (arith, ran.2, length-drop 1 times)))
    (each_read_is_timed r reads times seen tells readings)
