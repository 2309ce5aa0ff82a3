-- What an answer says of the reads.
use Rattle.std.proofs.Common.{◌≡◌, ℕ, ◌-◌, ◌≤◌, true, false, List, [], ◌∷◌, ◌++◌, map, length, drop, replicate, All, Option, Some, None, is_some, refl, sym, ap, ◌∙◌, inl, inr, subst, arith, append-nil, length-append, length-drop}
use Rattle.std.specs.Prelude.{option_map}
use Rattle.std.proofs.lemmas.List.{length-replicate}
use Rattle.std.proofs.lemmas.List.Elements.{All-nil}
use Rattle.std.proofs.lemmas.Option.{none-some}
use Rattle.block_list.specs.declared.status.Status.{Status}
use Rattle.block_list.specs.declared.status.Status.TheVariants.{NonTried}
use Rattle.mapfile_text.specs.declared.state.MapState.{MapState}
use Rattle.faulty_source.specs.Journal.{Reading, IsFrom}
use Rattle.faulty_source.specs.SourceState.{SourceState}
use Rattle.crash_site.specs.declared.site.SiteCall.{SiteCall}
use Rattle.crash_site.specs.declared.site.SiteCall.TheVariants.{ImageOpen, MapRead}
use Rattle.crash_site.specs.Files.{File}
use Rattle.rescue_domain.specs.Testing.{seen}
use Rattle.rescue_rules.specs.declared.phase.Phase.TheVariants.{Copying}
use Rattle.rescue_rules.specs.declared.stop.Stop.{Stop}
use Rattle.rescue_rules.specs.declared.stop.Stop.TheVariants.{SourceLost as InputLost, Site, LimitMet as Limited, NoMemory as NoRoom}
use Rattle.rescue_rules.specs.declared.stop.RunEnd.{RunEnd}
use Rattle.rescue_rules.specs.declared.stop.RunEnd.TheVariants.{Done as Finished, Stopped as RunStopped, SaveFailed}
use Rattle.rescue_rules.specs.Setting.{Setting, IsSensible}
use Rattle.rescue_rules.specs.Start.{StandsFor, TextStands, AsNone, AsMap}
use Rattle.rescue_rules.specs.Machine.{Machine}
use Rattle.rescue_rules.specs.Moves.{state_after, has_ended, IsMove}
use Rattle.rescue_rules.specs.Preparation.{prepared}
use Rattle.rescue_rules.specs.Beginning.{first_pass, goes_on_from, shown_at_first, machine_over}
use Rattle.rescue_rules.specs.Events.{began_at, reads_of}
use Rattle.rescue_rules.specs.Work.{Runs, events_in}
use Rattle.rescue_rules.proofs.ReadyLemmas.{order_over}
use Rattle.run_laws.specs.Bounds.{AskFew}
use Rattle.run_laws.proofs.BoundLemmas.{run_asks_few}
use Rattle.run_laws.proofs.EndingLemmas.{run_ends_well}
use Rattle.mapfile_save.specs.MapNames.{names_of}
use Rattle.option_words.specs.Words.{command_line}
use Rattle.ddrescue_words.specs.Command.{Command, Rescue}
use Rattle.rescue_rules.proofs.GoesLemmas.{timed}
use Rattle.task_files.specs.declared.ending.Ending.{Ending}
use Rattle.task_files.specs.declared.ending.Ending.TheVariants.{Done, SameName, SiteFault, NoMemory}
use Rattle.task_files.specs.Maps.{Found, seen_through}
use Rattle.ddrescue_laws.specs.InputRead.{HasRead, IsBeforeReads, IsOfOpening}
use Rattle.task_files.specs.Names.{program_name}
use Rattle.ddrescue_cli.specs.Tasks.{with_did}
use Rattle.ddrescue_cli.specs.ToldParts.{asked_of}
use Rattle.task_files.specs.Findings.{Findings, HasGainedReads}
use Rattle.ddrescue_cli.specs.Ddrescue.{TaskDone}
use Rattle.ddrescue_laws.specs.Laws.{ReadsAreARun}
use Rattle.task_files.specs.Work.{Rescues, rescue_faults, rescue_rows, worked_rows, answer_of}
use Rattle.program_promise.specs.Work.{Deeds, Works}
use Rattle.program_promise.proofs.AnswerLemmas.{FindNone, Came, Stopped, Went, came}
use Rattle.ddrescue_cli.proofs.AskedLemmas.{sensible_to}
use Rattle.ddrescue_cli.proofs.LateLemmas.{IsLate, rescue_late}
use Rattle.task_files.proofs.OpenedLemmas.{none_seen}
use Rattle.ddrescue_laws.proofs.DoneLemmas.{saved_ends}
use Rattle.ddrescue_cli.proofs.RefusalLemmas.{undone}

-- what is said of reads that the source gained
abbrev pub IsReadSo : Setting → Option (List Status) → (s s' : SourceState) → Ending → Deeds → Type 0
IsReadSo o test s s' e d = HasGainedReads test s s' d.gain.reads → HasRead o test e s s'

-- no event asks for anything
none_asked : (s : Setting) (m : Machine) → AskFew s m []
none_asked s m = record {
  copying = λ i j x v w a b on also. absurd (none-some v a.is);
  narrowing = λ i j x v w a b on also. absurd (none-some v a.is);
  retrying = λ i j x n v w a b on also. absurd (none-some v a.is);
  unfinished = λ i x v a has. none-some v a.is;
}

-- nothing was read
none_read : (s : Setting) (test : Option (List Status)) (e : Ending) (s0 s1 : SourceState) → (e ≡ Done → ⊥)
    → s1.journal ≡ s0.journal → HasRead s test e s0 s1
none_read s test e s0 s1 stopped same = record {
  statuses = replicate s.end NonTried;
  state = None;
  time = 0;
  long = omega (arith, length-replicate s.end NonTried);
  fresh = λ off. record { map_is = refl; state_is = refl };
  events = [];
  raw = [];
  gained = same ∙ sym (append-nil s0.journal);
  seen_are = none_seen test;
  run = record { each = All-nil (IsMove s) };
  right = All-nil (IsFrom s0.bytes);
  refused = λ r. refl;
  few = none_asked s (machine_over s (replicate s.end NonTried) None 0);
  done = λ d. absurd (stopped d);
  well = λ d. absurd (stopped d);
}

map_none : (test : List Status) (raw : List Reading) → map (seen test) raw ≡ [] → raw ≡ []
map_none test [] is = refl
map_none test (r ∷ raw) is = let no : map (seen test) (r ∷ raw) ≡ [] = is in absurd (cc)

seen_none : (test : Option (List Status)) (raw : List Reading) → seen_through test raw ≡ [] → raw ≡ []
seen_none None raw is = is
seen_none (Some test) raw is = map_none test raw is

none_so : (o : Setting) (test : Option (List Status)) (s s' : SourceState) (e : Ending) (d : Deeds)
    → (e ≡ Done → ⊥) → d.gain.reads ≡ [] → IsReadSo o test s s' e d
none_so o test s s' e d other none are =
    let empty : are.raw ≡ [] = seen_none test are.raw (are.seen_are ∙ none) in
    none_read o test e s s' other
    (are.journal ∙ ap (λ (r : List Reading). s.journal ++ r) empty ∙ append-nil s.journal)

-- a map reaches the input's end
text_long : (text : List ℕ) (end : ℕ) (statuses : List Status) (state : Option MapState) → TextStands text end statuses state
    → end ≤ length statuses
text_long text end statuses state (AsNone blank fresh) = omega (arith, ap length fresh.map_is, length-replicate end NonTried)
text_long text end statuses state (AsMap is) =
    omega (
      arith,
      ap length is.map_is,
      length-append is.statuses (replicate (end - length is.statuses) NonTried),
      length-replicate (end - length is.statuses) NonTried,
    )

stands_long : (mapfile : Option File) (end : ℕ) (statuses : List Status) (state : Option MapState)
    → StandsFor mapfile end statuses state → end ≤ length statuses
stands_long None end statuses state is = omega (arith, ap length is.map_is, length-replicate end NonTried)
stands_long (Some f) end statuses state is = text_long f.bytes end statuses state is

-- an answer of a run comes after its reads
call_refused : (call : SiteCall) (earlier : Option Stop) → IsLate (SiteFault call earlier) → IsOfOpening call → ⊥
call_refused ImageOpen earlier late opening = late.names ImageOpen earlier refl
call_refused MapRead earlier late opening = late.names MapRead earlier refl
call_refused call earlier late opening = opening

run_refused : (end : RunEnd) → IsLate (answer_of end) → IsBeforeReads (answer_of end) → ⊥
run_refused Finished late refused = refused.done refl
run_refused (RunStopped InputLost) late refused = refused.lost refl
run_refused (RunStopped (Site call)) late refused = call_refused call None late (refused.call call None refl)
run_refused (RunStopped (Limited limit)) late refused = refused.within limit refl
run_refused (RunStopped NoRoom) late refused = refused.room refl
run_refused (SaveFailed call earlier) late refused = call_refused call earlier late (refused.call call earlier refl)

run_so : (o : Setting) (test : Option (List Status)) (s s' : SourceState) (mapfile : Option File) (e : Ending)
    (lines : List (List ℕ)) (d : Deeds) → IsSensible o → (o.has_mapfile ≡ false → mapfile ≡ None)
    → Rescues o mapfile lines e d → IsReadSo o test s s' e d
run_so o test s s' mapfile e lines d ok none (opens, (statuses, state, stands, inl unbegun)) are =
    none_so o test s s' e d (λ is. let no : NoMemory ≡ Done = sym unbegun.answer ∙ is in cc) unbegun.reads are
run_so o test s s' mapfile e lines d ok none (opens, (statuses, state, stands, inr ran)) are =
    let end : RunEnd = ran.end in
    let is : e ≡ answer_of end = ran.answer in
    let runs : Runs o statuses state d.gain end = ran.runs in
    let late : IsLate e = rescue_late o mapfile lines e d (opens, (statuses, state, stands, inr ran)) in
    let time : ℕ = began_at d.gain.times in
    let m : Machine = machine_over o statuses state time in
    let reads : reads_of (events_in d.gain) ≡ d.gain.reads =
    timed d.gain.reads (drop 1 d.gain.times) (omega (arith, runs.times, length-drop 1 d.gain.times)) in
    let over : e ≡ Done → has_ended o (state_after o m (events_in d.gain)) ≡ true =
    λ done. (saved_ends o m (events_in d.gain) d.gain.calls end (sym done ∙ is) runs.ends).over in
    record {
      statuses = statuses;
      state = state;
      time = time;
      long = stands_long mapfile o.end statuses state stands.stands;
      fresh = λ off. subst (λ (f : Option File). StandsFor f o.end statuses state) (none off) stands.stands;
      events = events_in d.gain;
      raw = are.raw;
      gained = are.journal;
      seen_are = are.seen_are ∙ sym reads;
      run = runs.run;
      right = subst (λ (rs : List Reading). All (IsFrom s.bytes) rs) (sym reads) are.right;
      refused = λ refused.
          let L : Ending → Type 0 = IsLate in
          absurd (run_refused end (subst L is late) (subst IsBeforeReads is refused));
      few = run_asks_few o m Copying (first_pass (goes_on_from o.try_again state)) (events_in d.gain) ok
          (order_over o statuses state time) refl runs.run;
      done = over;
      well = λ done. run_ends_well o (prepared o.domain o.try_again o.retrim statuses) (goes_on_from o.try_again state)
          (shown_at_first state) time (events_in d.gain) ok runs.run (over done);
    }

none_named : (n : Option (List ℕ)) → is_some n ≡ false → n ≡ None
none_named None off = refl
none_named (Some name) off = absurd (cc)

mapfile_none : (c : Command) (found : Found) (end : ℕ) → FindNone (worked_rows c found end) → c.mapfile ≡ None → found.mapfile ≡ None
mapfile_none c found end (domain, (test, (mapfile, more))) = mapfile

-- the reads are a run, which gave the input's own bytes, and there is none before a refusal
came_so : (c : Command) (found : Found) (end : ℕ) (o : Setting) (test : Option (List Status)) (s s' : SourceState) (e : Ending)
    (lines : List (List ℕ)) (d : Deeds) → IsSensible o → o.has_mapfile ≡ is_some c.mapfile
    → Came rescue_faults (worked_rows c found end) (Rescues o found.mapfile lines) e d → IsReadSo o test s s' e d
came_so c found end o test s s' e lines d ok has (Stopped stops unread) are =
    none_so o test s s' e d (undone c found end e stops) unread are
came_so c found end o test s s' e lines d ok has (Went x ran reads none) are =
    run_so o test s s' found.mapfile e lines x ok
    (λ off. mapfile_none c found end none (none_named c.mapfile (sym has ∙ off))) ran
    (subst (λ (rs : List Reading). HasGainedReads test s s' rs) (sym reads) are)

works_so : (c : Command) (found : Found) (end : ℕ) (o : Setting) (test : Option (List Status)) (s s' : SourceState) (e : Ending)
    (lines : List (List ℕ)) (d : Deeds) → IsSensible o → o.has_mapfile ≡ is_some c.mapfile
    → Works rescue_faults (rescue_rows c found end) (Rescues o found.mapfile lines) e d → IsReadSo o test s s' e d
works_so c found end o test s s' e lines d ok has (inl (is, idle)) are =
    none_so o test s s' e d (λ done. let no : NoMemory ≡ Done = sym is ∙ done in cc) idle.gain.reads are
works_so c found end o test s s' e lines d ok has (inr (inl (r, idle))) are =
    none_so o test s s' e d (λ done. let no : SameName r.0 r.1 ≡ Done = sym r.3 ∙ done in cc) idle.gain.reads are
works_so c found end o test s s' e lines d ok has (inr (inr (passed, w))) are =
    came_so c found end o test s s' e lines d ok has
    (came rescue_faults (worked_rows c found end) (Rescues o found.mapfile lines) e d w) are

has_map : (n : Option (List ℕ)) → is_some (option_map names_of n) ≡ is_some n
has_map None = refl
has_map (Some name) = refl

pub reads_are_a_run : ReadsAreARun
reads_are_a_run t c d asks tells =
    let p : TaskDone (Rescue c) t = d.does.asked_for (Rescue c) asks in
    let o : Findings = with_did p.outside p.did in
    let s : Setting = asked_of c t o in
    works_so c o.found o.end s o.maps.test t.before.source t.after.source t.answer o.lines o.did
    (sensible_to c t.words (command_line program_name t.words) o.end o.maps asks) (has_map c.mapfile) p.work
    (p.agrees.agrees.reads tells)
