-- What the answers of a rescue's rows are.
use Rattle.std.proofs.Common.{◌≡◌, ℕ, Option, None, sym, ◌∙◌, inl, inr, subst}
use Rattle.crash_site.specs.declared.site.SiteCall.{SiteCall}
use Rattle.crash_site.specs.declared.site.SiteCall.TheVariants.{ImageRead, MapRead, MapRemove}
use Rattle.rescue_rules.specs.declared.stop.Stop.{Stop}
use Rattle.program_promise.specs.Work.{Deeds, Works}
use Rattle.program_promise.proofs.AnswerLemmas.{IsCalled, Starved, Unopened, Broken, Refused, Came, Stopped, Went, came}
use Rattle.ddrescue_words.specs.Command.{Command, Rescue}
use Rattle.task_files.specs.declared.ending.Ending.{Ending}
use Rattle.task_files.specs.declared.ending.Ending.TheVariants.{SameName, SourceFault, SiteFault, NoMemory}
use Rattle.task_files.specs.Maps.{Found}
use Rattle.task_files.specs.Findings.{Findings}
use Rattle.ddrescue_cli.specs.Tasks.{with_did}
use Rattle.ddrescue_cli.specs.ToldParts.{asked_of}
use Rattle.task_files.specs.Work.{Rescues, rescue_faults, rescue_rows, worked_rows}
use Rattle.task_files.specs.Answers.{IsRescueCall}
use Rattle.ddrescue_cli.specs.Ddrescue.{TaskDone}
use Rattle.ddrescue_laws.specs.Laws.{FaultsAreOfSteps}
use Rattle.ddrescue_cli.proofs.LateLemmas.{IsRunCall, IsLate, rescue_late}
use Rattle.ddrescue_cli.proofs.RowLemmas.{of_barrier}
use Rattle.ddrescue_cli.proofs.RefusalLemmas.{refused_plain}

-- a call that a row makes
read_own : (call : SiteCall) → call ≡ MapRead → IsRescueCall call
read_own call is = subst IsRescueCall (sym is) tt

called_own : (c : Command) (found : Found) (end : ℕ) (call : SiteCall) → IsCalled call (worked_rows c found end)
    → IsRescueCall call
called_own c found end call (inl is) = read_own call is
called_own c found end call (inr (inl is)) = read_own call is
called_own c found end call (inr (inr (inl (inl is)))) = subst IsRescueCall (sym is) tt
called_own c found end call (inr (inr (inl (inr none)))) = absurd none
called_own c found end call (inr (inr (inr (inl barrier)))) =
    of_barrier IsRescueCall tt tt call c.mapfile barrier
called_own c found end call (inr (inr (inr (inr (inl is))))) = read_own call is
called_own c found end call (inr (inr (inr (inr (inr none))))) = absurd none

-- and one of a run
run_own : (call : SiteCall) → IsRunCall call → IsRescueCall call
run_own ImageRead own = own
run_own MapRemove own = own
run_own call own = tt

came_own : (c : Command) (found : Found) (end : ℕ) (run : Ending → Deeds → Type 0) (e : Ending) (d : Deeds) (call : SiteCall)
    (earlier : Option Stop) → ((v : Ending) (x : Deeds) → run v x → IsLate v) → e ≡ SiteFault call earlier
    → Came rescue_faults (worked_rows c found end) run e d → IsRescueCall call
came_own c found end run e d call earlier late is (Stopped (Starved was) unread) =
    let no : NoMemory ≡ SiteFault call earlier = sym was ∙ is in absurd (cc)
came_own c found end run e d call earlier late is (Stopped (Unopened was) unread) =
    let no : SourceFault ≡ SiteFault call earlier = sym was ∙ is in absurd (cc)
came_own c found end run e d call earlier late is (Stopped (Broken at was called) unread) =
    let both : SiteFault at None ≡ SiteFault call earlier = sym was ∙ is in
    let same : at ≡ call = cc in
    subst IsRescueCall same (called_own c found end at called)
came_own c found end run e d call earlier late is (Stopped (Refused refused) unread) =
    absurd ((refused_plain c found end e refused).call call earlier is)
came_own c found end run e d call earlier late is (Went x ran reads found') =
    run_own call ((late e x ran).names call earlier is)

works_own : (c : Command) (found : Found) (end : ℕ) (run : Ending → Deeds → Type 0) (e : Ending) (d : Deeds) (call : SiteCall)
    (earlier : Option Stop) → ((v : Ending) (x : Deeds) → run v x → IsLate v) → e ≡ SiteFault call earlier
    → Works rescue_faults (rescue_rows c found end) run e d → IsRescueCall call
works_own c found end run e d call earlier late is (inl (was, idle)) =
    let no : NoMemory ≡ SiteFault call earlier = sym was ∙ is in absurd (cc)
works_own c found end run e d call earlier late is (inr (inl (r, idle))) =
    let no : SameName r.0 r.1 ≡ SiteFault call earlier = sym r.3 ∙ is in absurd (cc)
works_own c found end run e d call earlier late is (inr (inr (passed, w))) =
    came_own c found end run e d call earlier late is (came rescue_faults (worked_rows c found end) run e d w)

pub faults_are_of_steps : FaultsAreOfSteps
faults_are_of_steps t c d call earlier asks is =
    let p : TaskDone (Rescue c) t = d.does.asked_for (Rescue c) asks in
    let o : Findings = with_did p.outside p.did in
    works_own c o.found o.end (Rescues (asked_of c t o) o.found.mapfile o.lines) t.answer o.did call earlier
    (rescue_late (asked_of c t o) o.found.mapfile o.lines) is p.work
