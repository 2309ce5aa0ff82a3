-- What the promise of a rescue says of its work.
use Rattle.std.proofs.Common.{◌≡◌, inl, ⊎_elim, ℕ, true, IsTrue, List, [], Option, Some, None, refl, sym, ap, ◌∙◌, subst}
use Rattle.std.proofs.lemmas.List.Elements.{All-nil}
use Rattle.block_list.specs.declared.status.Status.{Status}
use Rattle.mapfile_text.specs.declared.state.MapState.{MapState}
use Rattle.faulty_source.specs.Journal.{Reading}
use Rattle.crash_site.specs.Files.{File}
use Rattle.rescue_rules.specs.Setting.{Setting, IsSensible}
use Rattle.rescue_rules.specs.Given.{given}
use Rattle.rescue_rules.specs.Events.{began_at}
use Rattle.rescue_rules.specs.Work.{Gain, begins, events_in, opening_calls, InOpening, is_map_read, Goes, InMaps, AfterMaps}
use Rattle.rescue_rules.proofs.GoesLemmas.{Course, Way, AnyMap, OneMap, way}
use Rattle.rescue_rules.proofs.ReadyLemmas.{order_over}
use Rattle.option_words.specs.Words.{command_line}
use Rattle.ddrescue_words.specs.Command.{Command, Rescue as ForRescue}
use Rattle.program_promise.specs.Work.{Works}
use Rattle.task_files.specs.Maps.{found_in}
use Rattle.task_files.specs.Names.{program_name}
use Rattle.task_files.specs.Findings.{Findings}
use Rattle.task_files.specs.Work.{Rescues, rescue_faults, rescue_rows}
use Rattle.ddrescue_cli.specs.Tasks.{with_did}
use Rattle.ddrescue_cli.specs.Told.{Told}
use Rattle.ddrescue_cli.specs.ToldParts.{files_of, asked_of}
use Rattle.ddrescue_cli.specs.Ddrescue.{TaskDone}
use Rattle.ddrescue_cli.proofs.GoesLemmas.{work_goes}
use Rattle.rescue_safety.proofs.ClaimLemmas.{given_domain}

-- a rescue that made no call and no read goes as it should
idle_goes : (s : Setting) (files : List ℕ → Option File) (g : Gain) → g.calls ≡ [] → g.reads ≡ [] → Goes s files g
idle_goes s files g none unread =
    AfterMaps [] g.calls (All-nil (λ c. is_map_read c ≡ true)) refl
    (InOpening [] (opening_calls s) refl unread (inl none))

-- the work of a promise goes as it should
pub promise_goes : (c : Command) (t : Told) (p : TaskDone (ForRescue c) t) → IsTrue t.before.site.tells
    → (asked_of c t (with_did p.outside p.did)).has_mapfile ≡ true → Goes (asked_of c t (with_did p.outside p.did)) (files_of t) p.did.gain
promise_goes c t p tells on =
    let o : Findings = with_did p.outside p.did in
    let s : Setting = asked_of c t o in
    let files : List ℕ → Option File = files_of t in
    let works : Works rescue_faults (rescue_rows c (found_in c files) o.end)
    (Rescues s (found_in c files).mapfile o.lines) t.answer o.did
    = subst (λ f. Works rescue_faults (rescue_rows c f o.end) (Rescues s f.mapfile o.lines) t.answer o.did)
    (p.agrees.agrees.found tells) p.work in
    ⊎_elim
    (λ idle. idle_goes s files o.did.gain idle.1.gain.calls idle.1.gain.reads)
    (λ more. ⊎_elim
    (λ refused. idle_goes s files o.did.gain refused.1.gain.calls refused.1.gain.reads)
    (λ passed. work_goes c (command_line program_name t.words) o.end o.maps files o.lines t.answer o.did on passed.1)
    more) works

-- what any reads of a rescue gave lies in its domain
course_domain : (s : Setting) (ok : IsSensible s) (began : List Status) (state : Option MapState) (g : Gain) (x byte : ℕ)
    → Course s began state g → given s.sector g.reads x ≡ Some byte → s.domain x ≡ true
course_domain s ok began state g x byte c is =
    given_domain s ok (begins s began state g) (events_in g) x byte (order_over s began state (began_at g.times)) c.run
    (ap (λ (r : List Reading). given s.sector r x) c.reads ∙ is)

way_domain : (s : Setting) (ok : IsSensible s) (files : List ℕ → Option File) (g : Gain) (x byte : ℕ) → Way s files g
    → given s.sector g.reads x ≡ Some byte → s.domain x ≡ true
way_domain s ok files g x byte (AnyMap any) is = course_domain s ok [] None g x byte (any [] None) is
way_domain s ok files g x byte (OneMap map at was course) is = course_domain s ok map at g x byte course is

pub goes_domain : (s : Setting) (ok : IsSensible s) (files : List ℕ → Option File) (g : Gain) (x byte : ℕ)
    → s.has_mapfile ≡ true → Goes s files g → given s.sector g.reads x ≡ Some byte → s.domain x ≡ true
goes_domain s ok files g x byte on (InMaps maps reads none broke) is =
    let e : None ≡ Some byte = sym (ap (λ (r : List Reading). given s.sector r x) none) ∙ is in absurd (cc)
goes_domain s ok files g x byte on (AfterMaps maps rest reads is_rest goes) is =
    way_domain s ok files (record g { calls = rest }) x byte (way s files (record g { calls = rest }) on goes) is
