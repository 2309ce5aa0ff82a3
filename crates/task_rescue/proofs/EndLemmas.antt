-- How a run ends: its last save, or the turn that it stopped in.
use Rattle.rescue_phases.proofs.TurnLemmas.{went_event, went_on, setting_stands}
use Rattle.rescue_phases.proofs.AlikeLemmas.{limit_alike}
use Rattle.rescue_rules.specs.declared.stop.Limit.{Limit}
use Rattle.std.proofs.Common.{◌≡◌, ℕ, ◌+◌, ◌<◌, ◌^◌, Bool, true, false, ◌&&◌, IsTrue, if◌then◌else◌, List, [], ◌∷◌, ◌++◌, map, length, All, Option, Some, None, is_none, refl, sym, ap, ◌∙◌, arith, subst, append_assoc, append-nil}
use Rattle.std.proofs.lemmas.List.Elements.{All-nil, All-cons, All-append}
use Rattle.std.proofs.lemmas.Bool.{false_from_ne_true}
use Rattle.std.proofs.Math.Bool.{and-false}
use Rattle.block_list.specs.declared.status.Status.{Status}
use Rattle.faulty_source.specs.SourceState.{SourceState}
use Rattle.faulty_source.specs.SourceChanges.{Stays as SourceStays}
use Rattle.crash_site.specs.declared.site.SiteCall.{SiteCall}
use Rattle.crash_site.specs.declared.site.SiteCall.TheVariants.{ImageWrite}
use Rattle.crash_site.specs.Calls.{Call, Entry, Done as Returned}
use Rattle.crash_site.specs.CallsMade.{Made, BrokeAt}
use Rattle.crash_site.specs.SiteState.{SiteState}
use Rattle.crash_site.specs.SiteChanges.{Breaks, Makes}
use Rattle.mapfile_text.specs.declared.state.Current.TheVariants.{Finished}
use Rattle.mapfile_save.specs.Saving.{save_calls, IsNameIn}
use Rattle.mapfile_save.proofs.CallLemmas.{made_more, broke_front, broke_back, named_front, named_back}
use Rattle.rescue_console.specs.ClockState.{ClockState, Reads as ReadsClock}
use Rattle.rescue_console.specs.ConsoleState.{ConsoleState}
use Rattle.rescue_console.specs.Speaking.{SpeaksOn, out_pieces}
use Rattle.transfer_token.specs.declared.token.Request.{Request}
use Rattle.rescue_rules.specs.declared.stop.Stop.{Stop}
use Rattle.rescue_rules.specs.declared.stop.Stop.TheVariants.{SourceLost, Site, NoMemory, LimitMet}
use Rattle.rescue_rules.specs.declared.stop.RunEnd.{RunEnd}
use Rattle.rescue_rules.specs.declared.stop.RunEnd.TheVariants.{Stopped}
use Rattle.rescue_rules.specs.declared.tally.Tally.{Tally}
use Rattle.rescue_rules.specs.Setting.{Setting}
use Rattle.rescue_rules.specs.declared.phase.Phase.TheVariants.{Retrying}
use Rattle.rescue_rules.specs.Machine.{Machine, IsRequest, has_request}
use Rattle.rescue_rules.specs.Step.{Event, limit_met, is_timely}
use Rattle.rescue_rules.specs.Moves.{Move, ready, no_pass_left, state_after, has_ended, IsRun}
use Rattle.rescue_rules.specs.Snapshots.{Snapshot, text_of, snapshot_of, finished_snapshot, last_snapshot, is_due}
use Rattle.rescue_rules.specs.RunCalls.{write_calls, due_calls, move_calls, run_calls, closing_calls, end_calls}
use Rattle.rescue_rules.specs.Events.{reads_of, times_of}
use Rattle.rescue_rules.specs.Laws.{AreTimes}
use Rattle.rescue_rules.specs.Lines.{ends_at_write, lines_of}
use Rattle.rescue_rules.specs.Work.{EndsBy, Ends, end_of, lost_by, lost_reads, IsSaved, IsUnsaved, IsBroken}
use Rattle.rescue_rules.proofs.ReadyLemmas.{ready_here, spent_request}
use Rattle.rescue_rules.proofs.SearchLemmas.{request_seen}
use Rattle.rescue_core.specs.RunState.{RunState, setting_in}
use Rattle.rescue_core.specs.Turning.{IsEvent, stepped, move_by, Halted, Starved, Lost, Unwritten, Unsaved, Limited}
use Rattle.rescue_core.specs.Closing.{LastSave, Saved, Unsaved as UnsavedEnd, Closes, closing_snapshot, last_pieces}
use Rattle.rescue_rules.specs.Across.{Across, across}
use Rattle.rescue_phases.specs.Turns.{IsAlike, moved_to, Went, WentUpTo}
use Rattle.faulty_source.specs.Journal.{IsFrom}
use Rattle.mapfile_save.specs.MapNames.{names_in}
use Rattle.rescue_core.proofs.ObjectLemmas.{timed_more}
use Rattle.rescue_phases.specs.Past.{IsPast}
use Rattle.task_rescue.specs.Running.{WentToEnd}
use Rattle.task_rescue.proofs.LastLemmas.{past_all}
use Rattle.task_rescue.proofs.SpokenLemmas.{SaidMore, said_more, save_writes_none, saves_written, says_all, says_front}
use Rattle.program_promise.proofs.GainLemmas.{MayGain, may_gain, broke_after}
use Rattle.task_rescue.proofs.TurnLemmas.{EventMore, event_more, ReadsMore, read_more}

-- a run that has met a request isn't over
pub asked_on : (s : Setting) (m : Machine) (p q : ℕ) → IsRequest s m p q → has_ended s m ≡ false
asked_on s m p q asks =
    let has : has_request s m ≡ true = request_seen s m p q asks in
    let here : ready s m ≡ m = ready_here s m has in
    let some : no_pass_left (ready s m).passes ≡ false =
    ap (λ (n : Machine). no_pass_left n.passes) here
    ∙ false_from_ne_true (no_pass_left m.passes) (λ none. let never : true ≡ false = sym has ∙ spent_request s m none in cc) in
    ap (λ (b : Bool). b && is_none (limit_met s m)) some

last_over : (s : Setting) (m : Machine) (over : Bool) → has_ended s m ≡ over → last_snapshot s m ≡ (if over then finished_snapshot m else snapshot_of m)
last_over s m over is = ap (λ (b : Bool). if b then finished_snapshot m else snapshot_of m) is

-- Alike states are over alike, and are saved alike.
over_alike : (r : RunState) (m n : Machine) (over : Bool) → IsAlike (setting_in r) m n → has_ended (setting_in r) n ≡ over
    → has_ended (setting_in r) m ≡ over
over_alike r m n over alike is =
    ap (λ (k : Machine). no_pass_left k.passes && is_none (limit_met (setting_in r) m)) (sym alike.next)
    ∙ ap (λ (met : Option Limit). no_pass_left (ready (setting_in r) n).passes && is_none met)
    (sym (limit_alike (setting_in r) m n alike)) ∙ is

snapshot_alike : (s : Setting) (m n : Machine) → IsAlike s m n → snapshot_of n ≡ snapshot_of m
snapshot_alike s m n alike =
    let P : List Status → Tally → Snapshot = λ map tally.
    record { map = map; shown = tally.shown; began = tally.began; now = tally.now } in
    ap (λ (map : List Status). P map n.tally) alike.map ∙ ap (P m.map) alike.tally

pub finished_alike : (s : Setting) (m n : Machine) → IsAlike s m n → finished_snapshot n ≡ finished_snapshot m
finished_alike s m n alike =
    ap (λ (p : Snapshot). record p { shown = record p.shown { current = Finished; pass = 1 } }) (snapshot_alike s m n alike)

-- the state that a run of events led to, and the one that a run came to
abbrev led_to : RunState → List Event → Machine
led_to r events = state_after (setting_in r) r.machine events

pub after_over : (r r1 : RunState) (events : List Event) (over : Bool) → r1 ≡ moved_to r r1
    → IsAlike (setting_in r) (led_to r events) r1.machine → has_ended (setting_in r1) r1.machine ≡ over
    → has_ended (setting_in r) (led_to r events) ≡ over
after_over r r1 events over stands alike is =
    over_alike r (led_to r events) r1.machine over alike
    (subst (λ (t : Setting). has_ended t r1.machine ≡ over) (setting_stands r r1 stands) is)

-- the limit that it met, if it did, or none
after_limit : (r r1 : RunState) (events : List Event) (met : Option Limit) → r1 ≡ moved_to r r1
    → IsAlike (setting_in r) (led_to r events) r1.machine → limit_met (setting_in r1) r1.machine ≡ met
    → limit_met (setting_in r) (led_to r events) ≡ met
after_limit r r1 events met stands alike is =
    sym (limit_alike (setting_in r) (led_to r events) r1.machine alike)
    ∙ subst (λ (t : Setting). limit_met t r1.machine ≡ met) (setting_stands r r1 stands) is

-- what the end of that one saves is what the run's end saves
saves_over : (r r1 : RunState) (events : List Event) → IsAlike (setting_in r) (led_to r events) r1.machine
    → has_ended (setting_in r) (led_to r events) ≡ true
    → closing_snapshot None r1 ≡ last_snapshot (setting_in r) (led_to r events)
saves_over r r1 events alike over =
    let m : Machine = led_to r events in
    finished_alike (setting_in r) m r1.machine alike ∙ sym (last_over (setting_in r) m true over)

saves_on : (r r1 : RunState) (events : List Event) (stop : Stop) → IsAlike (setting_in r) (led_to r events) r1.machine
    → has_ended (setting_in r) (led_to r events) ≡ false
    → closing_snapshot (Some stop) r1 ≡ last_snapshot (setting_in r) (led_to r events)
saves_on r r1 events stop alike on =
    let m : Machine = led_to r events in
    snapshot_alike (setting_in r) m r1.machine alike ∙ sym (last_over (setting_in r) m false on)

-- what was done up to the end of a run, or where it stopped
record IsDone (r : RunState) (events : List Event) (spare : List ℕ) (o : Across) : Type 0 where
  run : IsRun (setting_in r) r.machine events
  read : IsTrue o.source.tells → o.source'.journal ≡ o.source.journal ++ reads_of events
  right : IsTrue o.source.tells → All (IsFrom o.source.bytes) (reads_of events)
  timed : ReadsClock (times_of events ++ spare) o.clock o.clock'
  fit : AreTimes (times_of events ++ spare)

-- the calls of a run that ended so, over a record where the site tells
record EndsCalls (r : RunState) (events : List Event) (spare : ℕ) (end : RunEnd) (tells : Bool) (calls calls' : List Entry)
    : Type 0 where
  gained : List Entry
  grew : IsTrue tells → calls' ≡ calls ++ gained
  lost : spare ≡ lost_reads end
  ends : Ends (setting_in r) r.machine events gained end

to_end : (r : RunState) (end : RunEnd) (heard : Bool) (events : List Event) (spare : List ℕ) (o : Across)
    → IsDone r events spare o → EndsCalls r events (length spare) end o.site.tells o.site.calls o.site'.calls
    → SpeaksOn (out_pieces (lines_of (setting_in r) r.machine events end)) r.heard heard o.console o.console'
    → WentToEnd r end heard o
to_end r end heard events spare o d c says = record {
  events = events;
  spare = spare;
  lost = c.lost;
  run = d.run;
  read = d.read;
  right = d.right;
  timed = d.timed;
  fit = d.fit;
  gained = c.gained;
  grew = c.grew;
  ends = c.ends;
  says = says;
}

done_went : (r r1 : RunState) (o : Across) (site2 : SiteState) (console2 : ConsoleState) → (w : Went r r1 o)
    → IsDone r w.events [] (record o { site' = site2; console' = console2 })
done_went r r1 o site2 console2 w =
    let none : times_of w.events ≡ times_of w.events ++ [] = sym (append-nil (times_of w.events)) in
    record {
      run = w.run;
      read = w.read.told;
      right = w.right;
      timed = subst (λ (ts : List ℕ). ReadsClock ts o.clock o.clock') none w.timed;
      fit = subst AreTimes none w.fit;
    }

lost_end : (stop : Option Stop) → lost_reads (end_of stop) ≡ lost_by stop
lost_end None = refl
lost_end (Some stop) = refl

-- The save at the end of a run, or a call of it that failed.
save_ends : (r r1 : RunState) (events : List Event) (stop : Option Stop) (spare : ℕ) (end : RunEnd) (tells : Bool) (old : List Entry)
    (a b : SiteState) → EndsBy stop (setting_in r) (led_to r events) → spare ≡ lost_by stop
    → setting_in r1 ≡ setting_in r
    → closing_snapshot stop r1 ≡ last_snapshot (setting_in r) (led_to r events)
    → (IsTrue tells → Made (run_calls (setting_in r) r.machine events) old a.calls) → (IsTrue tells → IsTrue a.tells)
    → LastSave stop r1 end a b → EndsCalls r events spare end tells old b.calls
save_ends r r1 events stop spare end tells old a b by lost same text made told (Saved is makes rest) =
    let s : Setting = setting_in r in
    let are : closing_calls (setting_in r1) (closing_snapshot stop r1) ≡ end_calls s r.machine events =
    ap (λ (t : Setting). closing_calls t (closing_snapshot stop r1)) same ∙ ap (closing_calls s) text in
    record {
      gained = map Returned (run_calls s r.machine events ++ end_calls s r.machine events);
      grew = λ t. made_more old a.calls b.calls (run_calls s r.machine events) (end_calls s r.machine events) (made t)
          (subst (λ (cs : List Call). Made cs a.calls b.calls) are (makes.made (told t)));
      lost = lost ∙ sym (lost_end stop) ∙ ap lost_reads (sym is);
      ends = IsSaved stop by is refl;
    }
save_ends r r1 events stop spare end tells old a b by lost same text made told (UnsavedEnd call is named breaks rest) =
    let s : Setting = setting_in r in
    let are : closing_calls (setting_in r1) (closing_snapshot stop r1) ≡ end_calls s r.machine events =
    ap (λ (t : Setting). closing_calls t (closing_snapshot stop r1)) same ∙ ap (closing_calls s) text in
    let g : MayGain tells call (end_calls s r.machine events) a.calls b.calls =
    may_gain tells call (end_calls s r.machine events) a.calls b.calls
    (subst (λ (cs : List Call). IsNameIn call cs) are named)
    (λ t. subst (λ (cs : List Call). BrokeAt call cs a.calls b.calls) are (breaks.broke (told t))) in
    let calls : List Entry = map Returned (run_calls s r.machine events) in
    let Q : List Entry → Type 0 = λ from. BrokeAt call (end_calls s r.machine events) from (calls ++ g.more) in
    record {
      gained = calls ++ g.more;
      grew = λ t. g.grew t ∙ ap (λ (c : List Entry). c ++ g.more) (made t) ∙ append_assoc old calls g.more;
      lost = lost ∙ ap lost_reads (sym is);
      ends = IsUnsaved stop call by is
          (subst Q (append-nil calls) (broke_after call (end_calls s r.machine events) calls [] g.more g.broke));
    }

saves_as : (stop : Option Stop) (r q : RunState) (end : RunEnd) (a b : SiteState) → r ≡ q → LastSave stop r end a b → LastSave stop q end a b
saves_as stop r q end a b is saves = subst (λ (p : RunState). LastSave stop p end a b) is saves

-- a run that went on to its end
ended_done : (r r1 : RunState) (end : RunEnd) (heard : Bool) (o : Across) (site2 : SiteState) (console2 : ConsoleState)
    → Went r r1 o → has_ended (setting_in r1) r1.machine ≡ true → o.site'.tells ≡ o.site.tells
    → Closes None r1 end o.site' site2 → SpeaksOn (last_pieces r1 end) r1.heard heard o.console' console2
    → WentToEnd r end heard (record o { site' = site2; console' = console2 })
ended_done r r1 end heard o site2 console2 w over same saves last =
    let over' : has_ended (setting_in r) (led_to r w.events) ≡ true = after_over r r1 w.events true w.stands w.state over in
    to_end r end heard w.events [] (record o { site' = site2; console' = console2 })
    (done_went r r1 o site2 console2 w)
    (save_ends r r1 w.events None 0 end o.site.tells o.site.calls o.site' site2 over' refl (setting_stands r r1 w.stands)
    (saves_over r r1 w.events w.state over') w.made.made (λ tells. rw same tells) saves)
    (says_all r r1 w.events end heard o.console o.console' console2 (setting_stands r r1 w.stands) w.state w.says last
    (saves_written None r1 end o.site' site2 refl saves))

-- a run that came after its last phase
pub run_end : (r r1 : RunState) (end : RunEnd) (heard : Bool) (o : Across) (site2 : SiteState) (console2 : ConsoleState)
    → Went r r1 o → IsPast Retrying r1 → o.site'.tells ≡ o.site.tells → Closes None r1 end o.site' site2
    → SpeaksOn (last_pieces r1 end) r1.heard heard o.console' console2
    → WentToEnd r end heard (record o { site' = site2; console' = console2 })
run_end r r1 end heard o site2 console2 w led_to same saves last =
    ended_done r r1 end heard o site2 console2 w (past_all r1 led_to) same saves last

-- a run whose last event met a limit
limited_end : (r r2 : RunState) (limit : Limit) (end : RunEnd) (heard : Bool) (o : Across) (site2 : SiteState)
    (console2 : ConsoleState) → Went r r2 o → limit_met (setting_in r2) r2.machine ≡ Some limit
    → o.site'.tells ≡ o.site.tells → LastSave (Some (LimitMet limit)) r2 end o.site' site2
    → SpeaksOn (last_pieces r2 end) r2.heard heard o.console' console2
    → WentToEnd r end heard (record o { site' = site2; console' = console2 })
limited_end r r2 limit end heard o site2 console2 w is same saves last =
    let s : Setting = setting_in r in
    let m : Machine = led_to r w.events in
    let met : limit_met s m ≡ Some limit = after_limit r r2 w.events (Some limit) w.stands w.state is in
    let on : has_ended s m ≡ false =
    ap (λ (l : Option Limit). no_pass_left (ready s m).passes && is_none l) met ∙ and-false (no_pass_left (ready s m).passes) in
    to_end r end heard w.events [] (record o { site' = site2; console' = console2 })
    (done_went r r2 o site2 console2 w)
    (save_ends r r2 w.events (Some (LimitMet limit)) 0 end o.site.tells o.site.calls o.site' site2 met refl
    (setting_stands r r2 w.stands) (saves_on r r2 w.events (LimitMet limit) w.state on) w.made.made
    (λ tells. rw same tells) saves)
    (says_all r r2 w.events end heard o.console o.console' console2 (setting_stands r r2 w.stands) w.state w.says last
    (saves_written (Some (LimitMet limit)) r2 end o.site' site2 refl saves))

-- if a limit is met no save is due after the write
limited_calls : (r r2 : RunState) (e : Event) (limit : Limit) (a b : SiteState) → r2 ≡ stepped r e r2.heard
    → limit_met (setting_in r) r2.machine ≡ Some limit → Makes (write_calls (setting_in r) e.reading) a b
    → Makes (move_calls (setting_in r) (move_by r e)) a b
limited_calls r r2 e limit a b steps is makes =
    let s : Setting = setting_in r in
    let v : Move = move_by r e in
    let met : limit_met s v.after ≡ Some limit = ap (λ (q : RunState). limit_met s q.machine) (sym steps) ∙ is in
    let timely : Bool = is_timely v.before v.event in
    let due : is_due s v ≡ false =
    ap (λ (l : Option Limit). s.has_mapfile && timely && is_none l) met ∙ and-false (s.has_mapfile && timely) in
    let saves : List Call = save_calls s.names (text_of s.line (snapshot_of v.after)) in
    let none : due_calls s v ≡ [] = ap (λ (on : Bool). if on then saves else []) due in
    subst (λ (cs : List Call). Makes (write_calls s e.reading ++ cs) a b) (sym none)
    (subst (λ (cs : List Call). Makes cs a b) (sym (append-nil (write_calls s e.reading))) makes)

-- what is told up to a moment
abbrev across_to : Across → SourceState → SiteState → ClockState → ConsoleState → Across
across_to o source site clock console =
    record o { source' = source; site' = site; clock' = clock; console' = console }

-- a last line of the same state
last_as : (r q : RunState) (end : RunEnd) (heard : Bool) (x y z : ConsoleState) → r ≡ q → x ≡ y
    → SpeaksOn (last_pieces r end) r.heard heard x z → SpeaksOn (last_pieces q end) q.heard heard y z
last_as r q end heard x y z same still last =
    subst (λ (p : RunState). SpeaksOn (last_pieces p end) p.heard heard y z) same
    (subst (λ (c : ConsoleState). SpeaksOn (last_pieces r end) r.heard heard c z) still last)

-- a run that stopped before its event's calls
stopped_saves : (r r1 r2 : RunState) (stop : Stop) (end : RunEnd) (heard : Bool) (p q : ℕ) (spare : List ℕ) (o : Across)
    (site2 : SiteState) (source2 : SourceState) (clock2 : ClockState) (console2 console3 : ConsoleState)
    → (w : Went r r1 o) → limit_met (setting_in r1) r1.machine ≡ None → IsRequest (setting_in r1) r1.machine p q → r2 ≡ r1
    → ((m : Machine) → has_ended (setting_in r) m ≡ false → limit_met (setting_in r) m ≡ None
    → EndsBy (Some stop) (setting_in r) m) → length spare ≡ lost_by (Some stop)
    → ends_at_write (end_of (Some stop)) ≡ false → o.site'.tells ≡ o.site.tells
    → IsDone r w.events spare (across_to o source2 site2 clock2 console3) → LastSave (Some stop) r2 end o.site' site2
    → console2 ≡ o.console' → SpeaksOn (last_pieces r2 end) r2.heard heard console2 console3
    → WentToEnd r end heard (across_to o source2 site2 clock2 console3)
stopped_saves r r1 r2 stop end heard p q spare o site2 source2 clock2 console2 console3 w within asks still by lost told same d
    saves unsaid last =
    let on : has_ended (setting_in r) (led_to r w.events) ≡ false =
    after_over r r1 w.events false w.stands w.state (asked_on (setting_in r1) r1.machine p q asks) in
    let saves' : LastSave (Some stop) r1 end o.site' site2 = saves_as (Some stop) r2 r1 end o.site' site2 still saves in
    to_end r end heard w.events spare (across_to o source2 site2 clock2 console3) d
    (save_ends r r1 w.events (Some stop) (length spare) end o.site.tells o.site.calls o.site' site2
    (by (led_to r w.events) on (after_limit r r1 w.events None w.stands w.state within)) lost (setting_stands r r1 w.stands)
    (saves_on r r1 w.events stop w.state on) w.made.made
    (λ tells. rw same tells) saves')
    (says_all r r1 w.events end heard o.console o.console' console3 (setting_stands r r1 w.stands) w.state w.says
    (last_as r2 r1 end heard console2 o.console' console3 still unsaid last)
    (saves_written (Some stop) r1 end o.site' site2 told saves'))

-- a run that broke off in its event's calls
broken_calls : (r r1 : RunState) (es : List Event) (e : Event) (call : SiteCall) (end : RunEnd) (tells : Bool) (old a b : List Entry)
    → EventMore r r1 es e → end ≡ Stopped (Site call) → (IsTrue tells → Made (run_calls (setting_in r) r.machine es) old a)
    → IsNameIn call (move_calls (setting_in r1) (move_by r1 e))
    → (IsTrue tells → BrokeAt call (move_calls (setting_in r1) (move_by r1 e)) a b)
    → EndsCalls r (es ++ e ∷ []) 0 end tells old b
broken_calls r r1 es e call end tells old a b more is made named broke =
    let calls : List Entry = map Returned (run_calls (setting_in r) r.machine es) in
    let moves : List Call = move_calls (setting_in r1) (move_by r1 e) in
    let g : MayGain tells call moves a b = may_gain tells call moves a b named broke in
    let Q : List Entry → Type 0 = λ from. BrokeAt call moves from (calls ++ g.more) in
    let M : List Call → Type 0 = λ cs. BrokeAt call cs calls (calls ++ g.more) in
    record {
      gained = calls ++ g.more;
      grew = λ t. g.grew t ∙ ap (λ (c : List Entry). c ++ g.more) (made t) ∙ append_assoc old calls g.more;
      lost = ap lost_reads (sym is);
      ends = IsBroken es e call refl is
          (subst M (sym more.calls) (subst Q (append-nil calls) (broke_after call moves calls [] g.more g.broke)));
    }

broken_end : (r r1 : RunState) (call : SiteCall) (end : RunEnd) (heard : Bool) (request : Request) (e : Event) (o : Across)
    (source2 : SourceState) (site2 : SiteState) (clock2 : ClockState) (console2 : ConsoleState) → (w : Went r r1 o)
    → (more : EventMore r r1 w.events e) → IsEvent request e o.source' source2 o.clock' clock2
    → SourceStays o.source o.source' → end ≡ Stopped (Site call)
    → IsNameIn call (move_calls (setting_in r1) (move_by r1 e))
    → (IsTrue o.site.tells → BrokeAt call (move_calls (setting_in r1) (move_by r1 e)) o.site'.calls site2.calls)
    → SpeaksOn (out_pieces (lines_of (setting_in r) r.machine (w.events ++ e ∷ []) end)) r.heard heard o.console console2
    → WentToEnd r end heard (across_to o source2 site2 clock2 console2)
broken_end r r1 call end heard request e o source2 site2 clock2 console2 w more is stays ended named broke says =
    let m : ReadsMore r w.events e (record o { source' = source2; site' = site2; clock' = clock2 }) =
    read_more r r1 o request source2 site2 clock2 e w is stays in
    let times : List ℕ = times_of (w.events ++ e ∷ []) in
    let none : times ≡ times ++ [] = sym (append-nil times) in
    to_end r end heard (w.events ++ e ∷ []) [] (across_to o source2 site2 clock2 console2)
    (record {
      run = more.run;
      read = m.read.told;
      right = m.right;
      timed = subst (λ (ts : List ℕ). ReadsClock ts o.clock clock2) none m.timed;
      fit = subst AreTimes none m.fit;
    })
    (broken_calls r r1 w.events e call end o.site.tells o.site.calls o.site'.calls site2.calls more ended w.made.made named broke)
    says

event_next : (r r1 : RunState) (request : Request) (e : Event) (o : Across) (source2 : SourceState) (clock2 : ClockState)
    → (w : Went r r1 o) → limit_met (setting_in r1) r1.machine ≡ None
    → IsRequest (setting_in r1) r1.machine request.pos (request.pos + request.len)
    → IsEvent request e o.source' source2 o.clock' clock2 → EventMore r r1 w.events e
event_next r r1 request e o source2 clock2 w within asks is =
    event_more r r1 w.events e w.run (setting_stands r r1 w.stands) w.state within (rw (is.pos, is.asked) asks)
    (omega (arith, is.few, is.asked))

-- what a lost read leaves
done_lost : (r r1 : RunState) (before : ℕ) (o : Across) (source2 : SourceState) (site2 : SiteState) (clock2 : ClockState)
    (console2 : ConsoleState) → (w : Went r r1 o) → (IsTrue o.source.tells → source2.journal ≡ o.source'.journal)
    → before < 2 ^ 64 → ReadsClock (before ∷ []) o.clock' clock2
    → IsDone r w.events (before ∷ []) (across_to o source2 site2 clock2 console2)
done_lost r r1 before o source2 site2 clock2 console2 w untold small times =
    let P : ℕ → Type 0 = λ t. t < 2 ^ 64 in
    record {
      run = w.run;
      read = λ tells. untold tells ∙ w.read.told tells;
      right = w.right;
      timed = timed_more (times_of w.events) (before ∷ []) o.clock o.clock' clock2 w.timed times;
      fit = All-append P (times_of w.events) (before ∷ []) w.fit (All-cons P before [] small (All-nil P));
    }

done_still : (r r1 : RunState) (o : Across) (source2 : SourceState) (site2 : SiteState) (clock2 : ClockState)
    (console2 : ConsoleState) → (w : Went r r1 o) → source2 ≡ o.source' → clock2 ≡ o.clock'
    → IsDone r w.events [] (across_to o source2 site2 clock2 console2)
done_still r r1 o source2 site2 clock2 console2 w untouched unread =
    let d : IsDone r w.events [] (record o { site' = site2; console' = console2 }) = done_went r r1 o site2 console2 w in
    record {
      run = d.run;
      read = λ tells. ap (λ (x : SourceState). x.journal) untouched ∙ d.read tells;
      right = d.right;
      timed = subst (λ (k : ClockState). ReadsClock (times_of w.events ++ []) o.clock k) (sym unread) d.timed;
      fit = d.fit;
    }

-- the write of an event, or its save, that broke off
broken_write : (r : RunState) (e : Event) (a b c : SiteState) → c ≡ b
    → Breaks ImageWrite (write_calls (setting_in r) e.reading) a b → IsTrue a.tells
    → BrokeAt ImageWrite (move_calls (setting_in r) (move_by r e)) a.calls c.calls
broken_write r e a b c still breaks tells =
    let s : Setting = setting_in r in
    let C : SiteState → Type 0 = λ d. BrokeAt ImageWrite (move_calls s (move_by r e)) a.calls d.calls in
    subst C (sym still)
    (broke_front ImageWrite (write_calls s e.reading) (due_calls s (move_by r e)) a.calls b.calls (breaks.broke tells))

broken_save : (r r2 : RunState) (e : Event) (call : SiteCall) (a b c : SiteState) → c ≡ b → r2 ≡ stepped r e r2.heard
    → is_due (setting_in r) (move_by r e) ≡ true
    → BrokeAt call (save_calls (names_in r.names) (text_of r.line (snapshot_of r2.machine)))
    (a.calls ++ map Returned (write_calls (setting_in r) e.reading)) b.calls
    → BrokeAt call (move_calls (setting_in r) (move_by r e)) a.calls c.calls
broken_save r r2 e call a b c still steps due broke =
    let s : Setting = setting_in r in
    let v : Move = move_by r e in
    let writes : List Call = write_calls s e.reading in
    let saves : List Call = save_calls s.names (text_of s.line (snapshot_of v.after)) in
    let P : RunState → Type 0 = λ q. BrokeAt call (save_calls (names_in r.names) (text_of r.line (snapshot_of q.machine)))
    (a.calls ++ map Returned writes) b.calls in
    let there : BrokeAt call saves (a.calls ++ map Returned writes) b.calls = subst P steps broke in
    let made : due_calls s v ≡ saves = ap (λ (on : Bool). if on then saves else []) due in
    let C : SiteState → Type 0 = λ d. BrokeAt call (move_calls s v) a.calls d.calls in
    subst C (sym still) (broke_back call writes (due_calls s v) a.calls (a.calls ++ map Returned writes) b.calls refl
    (subst (λ (cs : List Call). BrokeAt call cs (a.calls ++ map Returned writes) b.calls) (sym made) there))

due_named : (r r2 : RunState) (e : Event) (call : SiteCall) → r2 ≡ stepped r e r2.heard
    → is_due (setting_in r) (move_by r e) ≡ true
    → IsNameIn call (save_calls (names_in r.names) (text_of r.line (snapshot_of r2.machine)))
    → IsNameIn call (due_calls (setting_in r) (move_by r e))
due_named r r2 e call steps due named =
    let s : Setting = setting_in r in
    let saves : List Call = save_calls s.names (text_of s.line (snapshot_of (move_by r e).after)) in
    let P : RunState → Type 0 = λ q. IsNameIn call (save_calls (names_in r.names) (text_of r.line (snapshot_of q.machine))) in
    let there : IsNameIn call saves = subst P steps named in
    let made : due_calls s (move_by r e) ≡ saves = ap (λ (on : Bool). if on then saves else []) due in
    subst (λ (cs : List Call). IsNameIn call cs) (sym made) there

-- where the turn stopped
pub halted_end : (r r1 r2 : RunState) (stop : Stop) (end : RunEnd) (heard : Bool) (request : Request) (o : Across)
    (source2 : SourceState) (site2 site3 : SiteState) (clock2 : ClockState) (console2 console3 : ConsoleState) → Went r r1 o
    → SourceStays o.source o.source' → o.site'.tells ≡ o.site.tells → limit_met (setting_in r1) r1.machine ≡ None
    → IsRequest (setting_in r1) r1.machine request.pos (request.pos + request.len)
    → Halted request stop r1 r2 (across o.source' source2 o.site' site2 o.clock' clock2 o.console' console2)
    → site2.tells ≡ o.site.tells → Closes (Some stop) r2 end site2 site3
    → SpeaksOn (last_pieces r2 end) r2.heard heard console2 console3
    → WentToEnd r end heard (across_to o source2 site3 clock2 console3)
halted_end r r1 r2 stop end heard request o source2 site2 site3 clock2 console2 console3 w stays same within
    asks (Starved is still untouched unmade unread unsaid) told closes last =
    let C : Stop → Type 0 = λ x. Closes (Some x) r2 end site2 site3 in
    let S : SiteState → Type 0 = λ d. LastSave (Some NoMemory) r2 end d site3 in
    stopped_saves r r1 r2 NoMemory end heard request.pos (request.pos + request.len) [] o site3 source2 clock2 console2
    console3 w within asks still (λ m on none. (on, none)) refl refl same
    (done_still r r1 o source2 site3 clock2 console3 w untouched unread)
    (subst S unmade (subst C is closes)) unsaid last
halted_end r r1 r2 stop end heard request o source2 site2 site3 clock2 console2 console3 w stays same within
    asks (Lost is still loses unmade before small times unsaid) told closes last =
    let C : Stop → Type 0 = λ x. Closes (Some x) r2 end site2 site3 in
    let S : SiteState → Type 0 = λ d. LastSave (Some SourceLost) r2 end d site3 in
    stopped_saves r r1 r2 SourceLost end heard request.pos (request.pos + request.len) (before ∷ []) o site3 source2 clock2
    console2 console3 w within asks still (λ m on none. (on, none)) refl refl same
    (done_lost r r1 before o source2 site3 clock2 console3 w (λ tells. loses.untold (rw stays.keeps.tells tells)) small times)
    (subst S unmade (subst C is closes)) unsaid last
halted_end r r1 r2 stop end heard request o source2 site2 site3 clock2 console2 console3 w stays same within
    asks (Unwritten is still e event named breaks unsaid) told closes last =
    let C : Stop → Type 0 = λ x. Closes (Some x) r2 end site2 site3 in
    let closed : (end ≡ Stopped (Site ImageWrite)) × (site3 ≡ site2) = subst C is closes in
    broken_end r r1 ImageWrite end heard request e o source2 site3 clock2 console3 w
    (event_next r r1 request e o source2 clock2 w within asks event) event stays closed.0
    (named_front ImageWrite (write_calls (setting_in r1) e.reading) (due_calls (setting_in r1) (move_by r1 e)) named)
    (λ tells. broken_write r1 e o.site' site2 site3 closed.1 breaks (rw same tells))
    (says_front r r1 w.events end heard o.console o.console' console3 (setting_stands r r1 w.stands) w.state w.says
    (last_as r2 r1 end heard console2 o.console' console3 still unsaid last) e (ap ends_at_write closed.0))
halted_end r r1 r2 stop end heard request o source2 site2 site3 clock2 console2 console3 w stays same within
    asks (Limited limit is e event steps met makes says) told closes last =
    let C : Stop → Type 0 = λ x. Closes (Some x) r2 end site2 site3 in
    let one : Went r1 r2 (across o.source' source2 o.site' site2 o.clock' clock2 o.console' console2) =
    went_event r1 r2 request e (across o.source' source2 o.site' site2 o.clock' clock2 o.console' console2) within asks event
    steps (limited_calls r1 r2 e limit o.site' site2 steps met makes) says in
    limited_end r r2 limit end heard (across_to o source2 site2 clock2 console2) site3 console3
    (went_on r r1 r2 o.source o.source' source2 o.site o.site' site2 o.clock o.clock' clock2 o.console o.console' console2 w
    stays same one)
    (subst (λ (t : Setting). limit_met t r2.machine ≡ Some limit) (sym (ap setting_in steps)) met)
    told (subst C is closes) last
halted_end r r1 r2 stop end heard request o source2 site2 site3 clock2 console2 console3 w stays same within
    asks (Unsaved call is e event steps due named broke rose says) told closes last =
    let C : Stop → Type 0 = λ x. Closes (Some x) r2 end site2 site3 in
    let closed : (end ≡ Stopped (Site call)) × (site3 ≡ site2) = subst C is closes in
    let more : SaidMore r r2 (w.events ++ e ∷ []) o.console console2 =
    said_more r r1 r2 request e o source2 clock2 console2 w within asks event steps says in
    let text : List ℕ = text_of r1.line (snapshot_of r2.machine) in
    broken_end r r1 call end heard request e o source2 site3 clock2 console3 w
    (event_next r r1 request e o source2 clock2 w within asks event) event stays closed.0
    (named_back call (write_calls (setting_in r1) e.reading) (due_calls (setting_in r1) (move_by r1 e)) (due_named r1 r2 e call steps due named))
    (λ tells. broken_save r1 r2 e call o.site' site2 site3 closed.1 steps due (broke (rw same tells)))
    (says_all r r2 (w.events ++ e ∷ []) end heard o.console console2 console3 more.same more.alike more.says last
    (ap ends_at_write closed.0 ∙ save_writes_none call (names_in r1.names) text named))

pub stopped_end : (r r2 : RunState) (stop : Stop) (end : RunEnd) (heard : Bool) (o : Across) (site3 : SiteState)
    (console3 : ConsoleState) → WentUpTo stop r r2 o → o.site'.tells ≡ o.site.tells → Closes (Some stop) r2 end o.site' site3
    → SpeaksOn (last_pieces r2 end) r2.heard heard o.console' console3
    → WentToEnd r end heard (record o { site' = site3; console' = console3 })
stopped_end r r2 stop end heard o site3 console3 h told closes last =
    halted_end r h.between r2 stop end heard h.request
    (across_to o h.source_between h.site_between h.clock_between h.console_between) o.source' o.site' site3 o.clock'
    o.console' console3 h.went h.source h.site_tells h.within h.asks h.halted told
    closes last
