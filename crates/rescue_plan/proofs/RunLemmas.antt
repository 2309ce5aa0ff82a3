-- What the run of a plan puts.
use Rattle.std.proofs.Common.{rules, ◌≡◌, ℕ, ◌+◌, ◌≤◌, Bool, true, false, ◌&&◌, nat_eq, nat_lt, is_some, IsTrue, List, [], ◌∷◌, ◌++◌, length, map, All, Option, Some, None, refl, sym, ap, subst, ◌∙◌, arith}
use Rattle.std.proofs.Math.Path.{fun_ext}
use Rattle.std.proofs.lemmas.Bool.{and_parts}
use Rattle.std.proofs.lemmas.Bool.Decides.{nat_tests}
use Rattle.std.proofs.lemmas.List.{length-replicate, map-append}
use Rattle.std.proofs.lemmas.List.Elements.{All-nil, All-cons, All-head, All-tail}
use Rattle.block_list.specs.declared.status.Status.{Status}
use Rattle.block_list.specs.declared.status.Status.TheVariants.{NonTried}
use Rattle.mapfile_save.specs.MapNames.{MapNames, names_in}
use Rattle.crash_site.specs.Calls.{Entry}
use Rattle.faulty_source.specs.declared.journal.ReadEntry.{ReadEntry}
use Rattle.faulty_source.specs.Journal.{Reading}
use Rattle.faulty_source.specs.SourceState.{SourceState, Below}
use Rattle.faulty_source.specs.SourceChanges.{Stays}
use Rattle.rescue_console.specs.ConsoleState.{ConsoleState}
use Rattle.rescue_console.specs.Speaking.{SpeaksOn, out_pieces}
use Rattle.rescue_domain.specs.Testing.{finished_front}
use Rattle.rescue_domain.specs.Parts.{covers}
use Rattle.rescue_rules.specs.declared.stop.RunEnd.{RunEnd}
use Rattle.rescue_rules.specs.declared.stop.RunEnd.TheVariants.{Done as RunDone, Stopped, SaveFailed}
use Rattle.rescue_rules.specs.Setting.{Setting, IsSensible}
use Rattle.rescue_rules.specs.Nameless.{nameless}
use Rattle.rescue_rules.specs.Machine.{Machine}
use Rattle.rescue_rules.specs.MachineLaws.{IsInOrder, StepsBy}
use Rattle.rescue_rules.specs.Preparation.{prepared, prepared_status}
use Rattle.rescue_rules.specs.Beginning.{goes_on_from, shown_at_first, machine_of}
use Rattle.rescue_rules.specs.Step.{Event}
use Rattle.rescue_rules.specs.Moves.{ready, move_of, state_after, IsMove, IsRun, has_ended}
use Rattle.rescue_rules.specs.Events.{reads_of}
use Rattle.rescue_rules.specs.Work.{Ends, IsSaved, IsUnsaved, IsBroken}
use Rattle.rescue_rules.proofs.NamelessLemmas.{run_named}
use Rattle.rescue_rules.proofs.MoveLemmas.{run_first, run_rest}
use Rattle.rescue_rules.proofs.ReadyLemmas.{order_over, order_ready, stays_ready}
use Rattle.rescue_rules.proofs.StepLemmas.{move_steps}
use Rattle.map_preparation.proofs.PrepareLemmas.{change_is_made}
use Rattle.run_options.specs.declared.settings.Settings.{Settings}
use Rattle.rescue_core.specs.RunState.{RunState, setting_with, setting_in}
use Rattle.ddrescue_words.specs.declared.options.Options.{Options}
use Rattle.task_files.specs.Asked.{domain_asked, no_maps}
use Rattle.task_files.specs.Settings.{settings_by}
use Rattle.ddrescueplan_words.specs.Command.{Command, AreInLimits}
use Rattle.plan_source.specs.declared.loss.PlanLoss.{PlanLoss}
use Rattle.plan_source.specs.declared.loss.PlanLoss.TheVariants.{Memory, Console}
use Rattle.plan_source.specs.Lines.{PlannedRead, planned, planned_entry, line_of, line_of_entry}
use Rattle.plan_source.specs.Printing.{HasPrinted, is_line_lost}
use Rattle.plan_source.specs.Answering.{IsSeenIn, there, given_at, reading_of, plan_source_state}
use Rattle.rescue_plan.specs.Plan.{IsPlannedIn, BeginsPlan, untried_map, plan_setting, plan_start}
use Rattle.rescue_plan.specs.Running.{BeginsPlannedRun, PutsPlan, PutsPlanWhole, PutsFirst, PutsPlanBroken, end_by}
use Rattle.plan_source.proofs.PrintingLemmas.{EndsWith, ends_with}
use Rattle.plan_source.proofs.ChainLemmas.{LastBreaks, last_breaks, lines_put, whole_lines, with_lines}
use Rattle.rescue_plan.proofs.SimilarLemmas.{IsUnlimited}
use Rattle.rescue_plan.proofs.PlanLemmas.{begins_by, limits_none, plan_by, unlimited}

-- the setting of a plan's run is the plan's, but for names
setting_is : (c : Command) (r : RunState) → BeginsPlannedRun c r → setting_in r ≡ nameless (plan_setting c.options.rescue c.length)
setting_is c r is =
    let o : Options = c.options.rescue in
    let domain : ℕ → Bool = domain_asked o c.length no_maps in
    let positions : covers r.domain ≡ domain = fun_ext is.domain in
    let S : Settings → Setting = λ settings. setting_with settings r.domain r.names r.line in
    let D : (ℕ → Bool) → Setting = λ inside. record (S (settings_by o)) { domain = inside } in
    let N : Option MapNames → Setting = λ names. record (D domain) { has_mapfile = is_some names; names = names_in names } in
    let L : List ℕ → Setting = λ line. record (N None) { line = line } in
    ap S is.settings_are ∙ ap D positions ∙ ap N is.names_are ∙ ap L is.line_is

-- and so is its machine
machine_is : (c : Command) (r : RunState) → BeginsPlannedRun c r
    → r.machine ≡ plan_start (plan_setting c.options.rescue c.length) c.length
machine_is c r is =
    let o : Options = c.options.rescue in
    let s : Setting = plan_setting o c.length in
    let positions : covers r.domain ≡ s.domain = fun_ext is.domain in
    let M : (ℕ → Bool) → Setting → Machine = λ inside t.
    machine_of t (prepared inside o.try_again o.retrim (untried_map c.length)) (goes_on_from o.try_again None) (shown_at_first None) 0 in
    is.machine ∙ ap (λ (inside : ℕ → Bool). M inside (setting_in r)) positions ∙ ap (M s.domain) (setting_is c r is)

run_is : (c : Command) (r : RunState) (es : List Event) → BeginsPlannedRun c r → IsRun (setting_in r) r.machine es
    → IsRun (plan_setting c.options.rescue c.length) (plan_start (plan_setting c.options.rescue c.length) c.length) es
run_is c r es is run =
    let s : Setting = plan_setting c.options.rescue c.length in
    run_named s (plan_start s c.length) es
    (subst (λ (m : Machine). IsRun (nameless s) m es) (machine_is c r is)
    (subst (λ (t : Setting). IsRun t r.machine es) (setting_is c r is) run))

ended_is : (c : Command) (r : RunState) (es : List Event) → BeginsPlannedRun c r
    → has_ended (setting_in r) (state_after (setting_in r) r.machine es) ≡ true
    → has_ended (plan_setting c.options.rescue c.length) (state_after (plan_setting c.options.rescue c.length)
    (plan_start (plan_setting c.options.rescue c.length) c.length) es) ≡ true
ended_is c r es is over =
    let s : Setting = plan_setting c.options.rescue c.length in
    subst (λ (m : Machine). has_ended (nameless s) (state_after (nameless s) m es) ≡ true) (machine_is c r is)
    (subst (λ (t : Setting). has_ended t (state_after t r.machine es) ≡ true) (setting_is c r is) over)

sensible_is : (c : Command) (r : RunState) → BeginsPlannedRun c r → IsSensible (plan_setting c.options.rescue c.length)
sensible_is c r is =
    let s : Setting = plan_setting c.options.rescue c.length in
    let k : IsSensible (nameless s) = subst IsSensible (setting_is c r is) is.copying.sensible in
    record {
      sector = k.sector;
      sectors = k.sectors;
      some = k.some;
      cluster = k.cluster;
      from = k.from;
      retries = k.retries;
    }

-- ---- reads within the input

-- a read ends with the map or before it
abbrev IsWithin : ℕ → Reading → Type 0
IsWithin n r = r.pos + r.asked ≤ n

events_within : (s : Setting) (m : Machine) (n : ℕ) (es : List Event) → IsSensible s → IsInOrder s m → IsRun s m es
    → length m.map ≡ n → All (IsWithin n) (reads_of es)
events_within s m n [] ok order run size = All-nil (IsWithin n)
events_within s m n (e ∷ es) ok order run size =
    let move : IsMove s (move_of s m e) = run_first s m e es run in
    let by : StepsBy s (ready s m) e = move_steps s (ready s m) e ok (order_ready s m order) move.request move.few in
    let same : length (ready s m).map ≡ n = ap length (stays_ready s m).map ∙ size in
    All-cons (IsWithin n) e.reading (reads_of es) (omega (arith, by.there, same))
    (events_within s (move_of s m e).after n es ok by.order (run_rest s m e es run) (by.size ∙ same))

less_self : (n : ℕ) → nat_lt n n ≡ false
less_self n = grind (arith, nat_tests)

and_off : (a b : Bool) → b ≡ false → (a && b) ≡ false
and_off true b is = is
and_off false b is = refl

-- an entry within the input's length gives what is finished, and meets no end
entry_planned : (len : ℕ) (test : List Status) (e : ReadEntry) → IsSeenIn len test e → e.pos + e.asked ≤ len
    → IsPlannedIn test (reading_of e)
entry_planned len test e seen within =
    let all : there len e.pos e.asked ≡ e.asked = omega (arith, within) in
    record {
      given = length-replicate e.given 0 ∙ seen.given ∙ ap (finished_front test e.pos) all;
      ended = seen.ended ∙ and_off (nat_eq (given_at len test e.pos e.asked) (there len e.pos e.asked))
          (nat_lt (there len e.pos e.asked) e.asked) (ap (λ (n : ℕ). nat_lt n e.asked) all ∙ less_self e.asked);
    }

entries_planned : (len : ℕ) (test : List Status) (entries : List ReadEntry) → All (IsSeenIn len test) entries
    → All (IsWithin len) (map reading_of entries) → All (IsPlannedIn test) (map reading_of entries)
entries_planned len test [] seen within = All-nil (IsPlannedIn test)
entries_planned len test (e ∷ entries) seen within =
    All-cons (IsPlannedIn test) (reading_of e) (map reading_of entries)
    (entry_planned len test e (All-head (IsSeenIn len test) e entries seen)
    (All-head (IsWithin len) (reading_of e) (map reading_of entries) within))
    (entries_planned len test entries (All-tail (IsSeenIn len test) e entries seen)
    (All-tail (IsWithin len) (reading_of e) (map reading_of entries) within))

-- the lines of the reads are those of the entries
planned_is : (e : ReadEntry) → planned (reading_of e) ≡ planned_entry e
planned_is e = ap (λ (n : ℕ). record { pos = e.pos; asked = e.asked; given = n }) (length-replicate e.given 0)

lines_are : (entries : List ReadEntry) → map line_of (map planned (map reading_of entries)) ≡ map line_of_entry entries
lines_are [] = refl
lines_are (e ∷ entries) =
    ap (λ (r : PlannedRead). line_of r ∷ map line_of (map planned (map reading_of entries))) (planned_is e)
    ∙ ap (λ (ts : List (List ℕ)). line_of_entry e ∷ ts) (lines_are entries)

-- those of entries with one more
planned_last : (before : List ReadEntry) (last : ReadEntry)
    → map planned (map reading_of (before ++ last ∷ [])) ≡ map planned (map reading_of before) ++ planned_entry last ∷ []
planned_last before last =
    ap (map planned) (map-append reading_of before (last ∷ []))
    ∙ map-append planned (map reading_of before) (reading_of last ∷ [])
    ∙ ap (λ (r : PlannedRead). map planned (map reading_of before) ++ r ∷ []) (planned_is last)

-- ---- how it ended

done_over : (s : Setting) (m : Machine) (es : List Event) (calls : List Entry) → Ends s m es calls RunDone
    → has_ended s (state_after s m es) ≡ true
done_over s m es calls (IsSaved None by is all) = by
done_over s m es calls (IsSaved (Some stop) by is all) = absurd (cc is)
done_over s m es calls (IsUnsaved stop call by is broke) = absurd (cc is)
done_over s m es calls (IsBroken before last call split is broke) = absurd (cc is)

blank_size : (s : Setting) (n : ℕ) → length (plan_start s n).map ≡ n
blank_size s n =
    (change_is_made s.domain (prepared_status s.try_again s.retrim) (untried_map n)).size ∙ length-replicate n NonTried

-- What such a run put, by the journal that it kept and what the console got of it.
module _ (c : Command) (limits : AreInLimits c) (r : RunState) (is : BeginsPlannedRun c r) (es : List Event)
    (run : IsRun (setting_in r) r.machine es) (test : List Status) (entries : List ReadEntry)
    (seen : All (IsSeenIn c.length test) entries) (journal : map reading_of entries ≡ reads_of es)
    (start now : ConsoleState) where
  abbrev s : Setting
  s = plan_setting c.options.rescue c.length

  planned_all : All (IsPlannedIn test) (reads_of es)
  planned_all =
      let inside : All (IsWithin c.length) (reads_of es) =
      events_within s (plan_start s c.length) c.length es (sensible_is c r is)
      (order_over s (untried_map c.length) None 0) (run_is c r es is run) (blank_size s c.length) in
      subst (λ (rs : List Reading). All (IsPlannedIn test) rs) journal
      (entries_planned c.length test entries seen
      (subst (λ (rs : List Reading). All (IsWithin c.length) rs) (sym journal) inside))

  lines_same : map line_of_entry entries ≡ map line_of (map planned (reads_of es))
  lines_same = sym (lines_are entries) ∙ ap (λ (rs : List Reading). map line_of (map planned rs)) journal

  says_whole : (lost : Option PlanLoss) → HasPrinted start now entries lost → is_line_lost lost ≡ false
      → SpeaksOn (out_pieces (map line_of (map planned (reads_of es)))) true true start now
  says_whole lost h whole =
      subst (λ (ts : List (List ℕ)). SpeaksOn (out_pieces ts) true true start now) lines_same
      (whole_lines start now entries lost h whole)

  unbounded : IsUnlimited s
  unbounded = unlimited c.options.rescue c.length (limits_none c.options.rescue limits.plain)

  reads_begin : BeginsPlan s c.length test (map planned (reads_of es))
  reads_begin = begins_by s unbounded c.length 0 test es (run_is c r es is run)
      planned_all

  put_whole : (lost : Option PlanLoss) → HasPrinted start now entries lost → is_line_lost lost ≡ false
      → has_ended (setting_in r) (state_after (setting_in r) r.machine es) ≡ true → PutsPlanWhole c test start now
  put_whole lost h whole over = record {
    reads = map planned (reads_of es);
    plan = plan_by s unbounded c.length 0 test es (run_is c r es is run) planned_all
        (ended_is c r es is over);
    says = says_whole lost h whole;
  }

  put_first : (lost : Option PlanLoss) → HasPrinted start now entries lost → is_line_lost lost ≡ false
      → PutsFirst c test start now
  put_first lost h whole =
      record { reads = map planned (reads_of es); first = reads_begin; says = says_whole lost h whole }

  put_broken : HasPrinted start now entries (Some Console) → PutsPlanBroken c test start now
  put_broken h =
      let end : EndsWith entries = ends_with entries (h.broken refl).some in
      let g : HasPrinted start now (end.before ++ end.last ∷ []) (Some Console) =
      subst (λ (xs : List ReadEntry). HasPrinted start now xs (Some Console)) end.are h in
      let last : LastBreaks start now end.before end.last =
      last_breaks start now end.before end.last (g.broken refl) g.calls in
      let reads : List PlannedRead = map planned (map reading_of end.before) in
      let are : map planned (reads_of es) ≡ reads ++ planned_entry end.last ∷ [] =
      ap (map planned) (sym journal ∙ ap (map reading_of) end.are) ∙ planned_last end.before end.last in
      record {
        reads = reads;
        next = planned_entry end.last;
        first = subst (λ (rs : List PlannedRead). BeginsPlan s c.length test rs) are reads_begin;
        between = with_lines end.before start;
        says = subst (λ (ts : List (List ℕ)). SpeaksOn (out_pieces ts) true true start (with_lines end.before start))
            (sym (lines_are end.before)) (lines_put end.before start);
        breaks = last.breaks;
        unput = last.unput;
      }

  -- by why reads after it are lost, and how the run ended
  pub plan_put : (lost : Option PlanLoss) (end : RunEnd) (calls : List Entry)
      → Ends (setting_in r) r.machine es calls end → HasPrinted start now entries lost
      → PutsPlan c test (end_by lost end) start now
  plan_put None RunDone calls ends h =
      put_whole None h refl (done_over (setting_in r) r.machine es calls ends)
  plan_put None (Stopped stop) calls ends h = put_first None h refl
  plan_put None (SaveFailed call earlier) calls ends h = put_first None h refl
  plan_put (Some Memory) end calls ends h = put_first (Some Memory) h refl
  plan_put (Some Console) end calls ends h = put_broken h

-- ---- what the source tells after the run

-- it is the same source, and its journal is the run's
record IsAfter (len len' : ℕ) (test test' : List Status) (opened : Bool) (entries : List ReadEntry) (reads : List Reading)
    : Type 0 where
  length_is : len' ≡ len
  test_is : test' ≡ test
  on : opened ≡ true
  journal : map reading_of entries ≡ reads

is_after : (len len' : ℕ) (test test' : List Status) (reference reference' : ℕ) (entries : List ReadEntry)
    (name : List ℕ) (opened : Bool) (opens faults losses : ℕ) (old : SourceState) (reads : List Reading)
    → old ≡ plan_source_state len test reference [] [] true 0 0 0
    → Stays old (plan_source_state len' test' reference' entries name opened opens faults losses)
    → (IsTrue old.tells → map reading_of entries ≡ old.journal ++ reads)
    → IsAfter len len' test test' opened entries reads
is_after len len' test test' reference reference' entries name opened opens faults losses old reads was stays read =
    let first : SourceState = plan_source_state len test reference [] [] true 0 0 0 in
    let new : SourceState = plan_source_state len' test' reference' entries name opened opens faults losses in
    let st : Stays first new = subst (λ (s : SourceState). Stays s new) was stays in
    let journal : IsTrue first.tells → map reading_of entries ≡ first.journal ++ reads =
    subst (λ (s : SourceState). IsTrue s.tells → map reading_of entries ≡ s.journal ++ reads) was read in
    let same : ◌≡◌ {A = Below} (record { reference = reference'; test_map = test'; is_scheduled = false })
    (record { reference = reference; test_map = test; is_scheduled = false }) = cc st.keeps.below in
    record {
      length_is = sym (length-replicate len' 0) ∙ ap length (st.keeps.bytes (search rules)) ∙ length-replicate len 0;
      test_is = ap (λ (b : Below). b.test_map) same;
      on = st.input;
      journal = journal (search rules);
    }

-- What the run of a plan put, by all that is told of it.
pub run_puts : (c : Command) (limits : AreInLimits c) (r : RunState) (is : BeginsPlannedRun c r) (end : RunEnd) (es : List Event)
    (run : IsRun (setting_in r) r.machine es) (calls : List Entry)
    → Ends (setting_in r) r.machine es calls end
    → (len len' : ℕ) → c.length ≡ len → (test test' : List Status) (reference reference' : ℕ) (entries : List ReadEntry)
    (name : List ℕ) (opened idle : Bool) (opens faults losses : ℕ) (lost : Option PlanLoss) (old : SourceState)
    → old ≡ plan_source_state len test reference [] [] true 0 0 0
    → Stays old (plan_source_state len' test' reference' entries name (opened && idle) opens faults losses)
    → (IsTrue old.tells → map reading_of entries ≡ old.journal ++ reads_of es)
    → All (IsSeenIn len' test') entries → (start now : ConsoleState) → (idle ≡ true → HasPrinted start now entries lost)
    → PutsPlan c test (end_by lost end) start now
run_puts c limits r is end es run calls ends len len' size test test' reference reference' entries name opened idle
    opens faults losses lost old was stays read seen start now printed =
    let b : IsAfter len len' test test' (opened && idle) entries (reads_of es) =
    is_after len len' test test' reference reference' entries name (opened && idle) opens faults losses old (reads_of es)
    was stays read in
    let seen_all : All (IsSeenIn c.length test) entries =
    subst (λ (n : ℕ). All (IsSeenIn n test) entries) (b.length_is ∙ sym size)
    (subst (λ (f : List Status). All (IsSeenIn len' f) entries) b.test_is seen) in
    plan_put c limits r is es run test entries seen_all b.journal start now lost end calls ends
    (printed (and_parts opened idle b.on).1)
