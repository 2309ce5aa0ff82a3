-- The turns of a phase of a safe run, whole ones and those up to one that stopped.
use Rattle.std.proofs.Common.{◌≡◌, ℕ, ◌+◌, ◌-◌, IsTrue, List, [], ◌∷◌, ◌++◌, length, map, Option, None, refl, sym, ap, subst, ◌∙◌, arith, append_assoc, append-nil}
use Rattle.std.specs.List.{flat_map}
use Rattle.std.proofs.lemmas.Grind.{flat_map-append}
use Rattle.std.proofs.lemmas.List.{map-append}
use Rattle.faulty_source.specs.Journal.{Reading}
use Rattle.faulty_source.specs.SourceState.{SourceState}
use Rattle.crash_site.specs.Files.{File}
use Rattle.crash_site.specs.Calls.{Call, Entry, Done}
use Rattle.crash_site.specs.Disk.{Disk}
use Rattle.crash_site.specs.SiteState.{SiteState}
use Rattle.crash_site.specs.SiteChanges.{Keeps}
use Rattle.mapfile_save.specs.SaveStops.{disk_of}
use Rattle.rescue_console.specs.ClockState.{ClockState}
use Rattle.transfer_token.specs.declared.token.Request.{Request}
use Rattle.rescue_rules.specs.declared.stop.Stop.{Stop}
use Rattle.rescue_rules.specs.Setting.{Setting}
use Rattle.rescue_rules.specs.Machine.{Machine, IsRequest}
use Rattle.rescue_rules.specs.Step.{Event, limit_met, step}
use Rattle.rescue_rules.specs.Moves.{Move, ready, move_of, moves, state_after, IsMove, IsRun}
use Rattle.rescue_rules.specs.MachineLaws.{GoesOnBy}
use Rattle.rescue_rules.specs.Events.{reads_of}
use Rattle.rescue_rules.specs.Snapshots.{Snapshot, snapshot_of}
use Rattle.rescue_rules.specs.RunCalls.{move_calls, run_calls, closing_calls}
use Rattle.rescue_rules.specs.RunStops.{ComesTo}
use Rattle.rescue_rules.specs.Nameless.{nameless}
use Rattle.rescue_rules.proofs.MoveLemmas.{goes_on, reads_append}
use Rattle.rescue_rules.proofs.NamelessLemmas.{run_named, request_named}
use Rattle.rescue_rules.proofs.ReadyLemmas.{ready_here, stays_ready}
use Rattle.rescue_rules.proofs.SearchLemmas.{request_seen}
use Rattle.rescue_rules.specs.Across.{Across}
use Rattle.rescue_core.specs.RunState.{RunState, setting_in}
use Rattle.rescue_core.specs.Turning.{IsEvent, move_by}
use Rattle.rescue_phases.specs.Turns.{IsAlike, Went, WentUpTo}
use Rattle.rescue_phases.proofs.AlikeLemmas.{moves_alike, next_alike, run_alike}
use Rattle.rescue_phases.proofs.TurnLemmas.{setting_stands}
use Rattle.turn_laws.specs.Safe.{IsHeldIn, IsSafe}
use Rattle.turn_laws.specs.Laws.{IsLeftWithin, reads_by}
use Rattle.turn_laws.specs.PhaseLaws.{AlikeAreSafe, PhaseStaysSafe, PhaseIsHeld, StoppedTurnsStaySafe, StoppedTurnsAreHeld}
use Rattle.turn_laws.proofs.SafeLemmas.{comes_all, comes_past, comes_more, run_stays_safe}
use Rattle.turn_laws.proofs.SiteLemmas.{Grew, grown_disk, left_within}
use Rattle.turn_laws.proofs.TurnLemmas.{calls_named, DidHalted, Unread, ReadOne, did_halted, CameHalted, Stood, Stepped, came_halted}

-- alike states lead to maps that are the same
map_alike : (s : Setting) (m n : Machine) (es : List Event) → ready s n ≡ ready s m
    → (state_after s n es).map ≡ (state_after s m es).map
map_alike s m n es next =
    sym (stays_ready s (state_after s n es)).map
    ∙ ap (λ (k : Machine). k.map) (next_alike s m n es next) ∙ (stays_ready s (state_after s m es)).map

pub alike_are_safe : AlikeAreSafe
alike_are_safe s start reads m n d alike safe = record {
  each = λ es last calls k files run same comes leaves.
      let cs : List Move → List Call = λ vs. flat_map (move_calls s) vs ++ closing_calls s last in
      safe.each es last calls k files (run_alike s n m es (sym alike.next) run)
      (same ∙ map_alike s m n es alike.next)
      (subst (λ (vs : List Move). ComesTo (cs vs) calls) (moves_alike s m n es alike.next) comes) leaves;
}

-- a run of whole turns, by the setting with all names
pub record TurnsRun (s : Setting) (r r' : RunState) (es : List Event) (site site' : SiteState) : Type 0 where
  pub run : IsRun s r.machine es
  pub setting : setting_in r' ≡ nameless s
  pub alike : IsAlike s (state_after s r.machine es) r'.machine
  pub calls : site'.calls ≡ site.calls ++ map Done (run_calls s r.machine es)

pub turns_run : (s : Setting) (r r' : RunState) (o : Across) → setting_in r ≡ nameless s → IsTrue o.site.tells
    → (w : Went r r' o) → TurnsRun s r r' w.events o.site o.site'
turns_run s r r' o setting tells w =
    let m : Machine = r.machine in
    record {
      run = run_named s m w.events (subst (λ (x : Setting). IsRun x m w.events) setting w.run);
      setting = setting_stands r r' w.stands ∙ setting;
      alike =
          let a : IsAlike (nameless s) (state_after (nameless s) m w.events) r'.machine
          = subst (λ (x : Setting). IsAlike x (state_after x m w.events) r'.machine) setting w.state in
          record { map = a.map; tally = a.tally; next = a.next };
      calls = w.made.made tells
          ∙ ap (λ (cs : List Call). o.site.calls ++ map Done cs) (calls_named s (setting_in r) m w.events setting);
    }

pub phase_stays_safe : PhaseStaysSafe
phase_stays_safe s start reads r r' o setting tells keeps w safe =
    let t : TurnsRun s r r' w.events o.site o.site' = turns_run s r r' o setting tells w in
    let made : List Entry = map Done (run_calls s r.machine w.events) in
    alike_are_safe s start (reads ++ reads_of w.events) (state_after s r.machine w.events) r'.machine (disk_of o.site')
    t.alike
    (subst (λ (d : Disk). IsSafe s start (reads ++ reads_of w.events) (state_after s r.machine w.events) d)
    (sym (grown_disk o.site o.site' made tells keeps t.calls))
    (run_stays_safe s start reads r.machine (disk_of o.site) w.events safe t.run))

-- a stop within calls that come to a part of a run's
pub part_of_run : (s : Setting) (start : List ℕ) (reads : List Reading) (m : Machine) (es : List Event)
    (site site' : SiteState) (files : List ℕ → Option File) → IsTrue site.tells → Keeps site site' → IsRun s m es
    → Grew (run_calls s m es) site.calls site'.calls → IsSafe s start reads m (disk_of site)
    → IsLeftWithin site site' files → IsHeldIn s start (reads ++ reads_of es) files
part_of_run s start reads m es site site' files tells keeps run g safe l =
    let last : Snapshot = snapshot_of (state_after s m es) in
    safe.each es last g.more (l.moment - length site.calls) files run refl
    (comes_more (run_calls s m es) (closing_calls s last) g.more g.comes)
    (left_within site site' g.more files tells keeps g.is l)

pub phase_is_held : PhaseIsHeld
phase_is_held s start reads r r' o files setting tells keeps w safe l =
    let t : TurnsRun s r r' w.events o.site o.site' = turns_run s r r' o setting tells w in
    let made : List Call = run_calls s r.machine w.events in
    part_of_run s start reads r.machine w.events o.site o.site' files tells keeps t.run
    (record { more = map Done made; is = t.calls; comes = comes_all made }) safe l

-- A run of whole turns, and one more event from where they came to.
record MoreRun (s : Setting) (r q : RunState) (es : List Event) (e : Event) : Type 0 where
  run : IsRun s r.machine (es ++ e ∷ [])
  calls : run_calls s r.machine (es ++ e ∷ []) ≡ run_calls s r.machine es ++ move_calls (setting_in q) (move_by q e)
  state : state_after s r.machine (es ++ e ∷ []) ≡ step (setting_in q) q.machine e

more_run : (s : Setting) (r q : RunState) (es : List Event) (e : Event) (request : Request) (a b : SourceState)
    (k l : ClockState) (site site' : SiteState) → TurnsRun s r q es site site' → limit_met (setting_in q) q.machine ≡ None
    → IsRequest (setting_in q) q.machine request.pos (request.pos + request.len)
    → IsEvent request e a b k l → MoreRun s r q es e
more_run s r q es e request a b k l site site' t within asks is =
    let m : Machine = state_after s r.machine es in
    let n : Machine = q.machine in
    let p : ℕ = e.reading.pos in
    let to : request.pos + request.len ≡ p + e.reading.asked = omega (arith, is.pos, is.asked) in
    let asks' : IsRequest s n p (p + e.reading.asked)
    = request_named s n p (p + e.reading.asked)
    (subst (λ (x : Setting). IsRequest x n p (p + e.reading.asked)) t.setting
    (subst (λ (j : ℕ). IsRequest (setting_in q) n p j) to
    (subst (λ (j : ℕ). IsRequest (setting_in q) n j (request.pos + request.len)) (sym is.pos) asks))) in
    let here : ready s m ≡ n
    = sym t.alike.next ∙ ready_here s n (request_seen s n p (p + e.reading.asked) asks') in
    let M : Machine → Move = λ j. record { before = j; event = e; after = step s j e } in
    let moved : move_of s m e ≡ M n = ap M here in
    let one : IsMove s (move_of s m e) = subst (λ (v : Move). IsMove s v) (sym moved) (record {
      request = asks';
      few = omega (arith, is.few, is.asked);
      within = subst (λ (x : Setting). limit_met x n ≡ None) t.setting within;
    }) in
    let on : GoesOnBy s r.machine es e = goes_on s r.machine es e t.run one in
    let v : Move = move_of s m e in
    let C : Setting → List Call = λ x. move_calls x (record { before = n; event = e; after = step x n e }) in
    record {
      run = on.run;
      calls = ap (flat_map (move_calls s)) on.moves_are
          ∙ flat_map-append (move_calls s) (moves s r.machine es) (v ∷ [])
          ∙ ap (λ (cs : List Call). run_calls s r.machine es ++ cs)
          (append-nil (move_calls s v) ∙ ap (move_calls s) moved ∙ ap C (sym t.setting));
      state = on.state ∙ ap (λ (w : Move). w.after) moved ∙ ap (λ (x : Setting). step x n e) (sym t.setting);
    }

-- what a turn that stopped did, after whole ones
stopped_are_held : (s : Setting) (start : List ℕ) (reads own : List Reading) (stop : Stop) (r r' : RunState)
    (o : Across) (files : List ℕ → Option File) → setting_in r ≡ nameless s → IsTrue o.site.tells
    → Keeps o.site o.site' → (w : WentUpTo stop r r' o)
    → DidHalted w.request w.between (record o {
      source = w.source_between;
      site = w.site_between;
      clock = w.clock_between;
      console = w.console_between;
    }) own → IsSafe s start reads r.machine (disk_of o.site) → IsLeftWithin o.site o.site' files
    → IsHeldIn s start (reads ++ (reads_of w.went.events ++ own)) files
stopped_are_held s start reads own stop r r' o files setting tells keeps w (Unread none site) safe l =
    let es : List Event = w.went.events in
    let t : TurnsRun s r w.between es o.site w.site_between = turns_run s r w.between _ setting tells w.went in
    let made : List Call = run_calls s r.machine es in
    subst (λ (rs : List Reading). IsHeldIn s start (reads ++ rs) files)
    (sym (append-nil (reads_of es)) ∙ ap (λ (rs : List Reading). reads_of es ++ rs) (sym none))
    (part_of_run s start reads r.machine es o.site o.site' files tells keeps t.run
    (record {
      more = map Done made;
      is = ap (λ (x : SiteState). x.calls) site ∙ t.calls;
      comes = comes_all made;
    }) safe l)
stopped_are_held s start reads own stop r r' o files setting tells keeps w (ReadOne e one is g) safe l =
    let es : List Event = w.went.events in
    let t : TurnsRun s r w.between es o.site w.site_between = turns_run s r w.between _ setting tells w.went in
    let made : List Call = run_calls s r.machine es in
    let now : List Call = move_calls (setting_in w.between) (move_by w.between e) in
    let more : MoreRun s r w.between es e
    = more_run s r w.between es e w.request _ _ _ _ o.site w.site_between t w.within w.asks is in
    subst (λ (rs : List Reading). IsHeldIn s start (reads ++ rs) files)
    (reads_append es (e ∷ []) ∙ ap (λ (rs : List Reading). reads_of es ++ rs) (sym one))
    (part_of_run s start reads r.machine (es ++ e ∷ []) o.site o.site' files tells keeps more.run
    (record {
      more = map Done made ++ g.more;
      is = g.is ∙ ap (λ (c : List Entry). c ++ g.more) t.calls ∙ append_assoc o.site.calls (map Done made) g.more;
      comes = subst (λ (cs : List Call). ComesTo cs (map Done made ++ g.more)) (sym more.calls)
          (comes_past made now g.more g.comes);
    }) safe l)

pub stopped_turns_are_held : StoppedTurnsAreHeld
stopped_turns_are_held s start reads stop r r' o files setting tells keeps w safe l =
    stopped_are_held s start reads (reads_by w.halted) stop r r' o files setting tells keeps w
    (did_halted w.request stop w.between r' _ w.halted (subst IsTrue (sym w.site_tells) tells)) safe l

-- and what it came to
stopped_stay_safe : (s : Setting) (start : List ℕ) (reads own : List Reading) (stop : Stop) (r r' : RunState)
    (o : Across) → setting_in r ≡ nameless s → IsTrue o.site.tells → Keeps o.site o.site'
    → (w : WentUpTo stop r r' o)
    → CameHalted w.request w.between r' (record o {
      source = w.source_between;
      site = w.site_between;
      clock = w.clock_between;
      console = w.console_between;
    }) own → IsSafe s start reads r.machine (disk_of o.site)
    → IsSafe s start (reads ++ (reads_of w.went.events ++ own)) r'.machine (disk_of o.site')
stopped_stay_safe s start reads own stop r r' o setting tells keeps w (Stood none same site) safe =
    let es : List Event = w.went.events in
    let t : TurnsRun s r w.between es o.site w.site_between = turns_run s r w.between _ setting tells w.went in
    let made : List Entry = map Done (run_calls s r.machine es) in
    subst (λ (rs : List Reading). IsSafe s start (reads ++ rs) r'.machine (disk_of o.site'))
    (sym (append-nil (reads_of es)) ∙ ap (λ (rs : List Reading). reads_of es ++ rs) (sym none))
    (subst (λ (q : RunState). IsSafe s start (reads ++ reads_of es) q.machine (disk_of o.site')) (sym same)
    (alike_are_safe s start (reads ++ reads_of es) (state_after s r.machine es) w.between.machine (disk_of o.site')
    t.alike
    (subst (λ (d : Disk). IsSafe s start (reads ++ reads_of es) (state_after s r.machine es) d)
    (sym (grown_disk o.site o.site' made tells keeps (ap (λ (x : SiteState). x.calls) site ∙ t.calls)))
    (run_stays_safe s start reads r.machine (disk_of o.site) es safe t.run))))
stopped_stay_safe s start reads own stop r r' o setting tells keeps w (Stepped e one is steps calls) safe =
    let es : List Event = w.went.events in
    let t : TurnsRun s r w.between es o.site w.site_between = turns_run s r w.between _ setting tells w.went in
    let made : List Call = run_calls s r.machine es in
    let now : List Call = move_calls (setting_in w.between) (move_by w.between e) in
    let more : MoreRun s r w.between es e
    = more_run s r w.between es e w.request _ _ _ _ o.site w.site_between t w.within w.asks is in
    let all : List Entry = map Done (run_calls s r.machine (es ++ e ∷ [])) in
    let grew : o.site'.calls ≡ o.site.calls ++ all
    = calls ∙ ap (λ (c : List Entry). c ++ map Done now) t.calls
    ∙ append_assoc o.site.calls (map Done made) (map Done now)
    ∙ ap (λ (c : List Entry). o.site.calls ++ c)
    (sym (map-append Done made now) ∙ ap (map Done) (sym more.calls)) in
    subst (λ (rs : List Reading). IsSafe s start (reads ++ rs) r'.machine (disk_of o.site'))
    (reads_append es (e ∷ []) ∙ ap (λ (rs : List Reading). reads_of es ++ rs) (sym one))
    (subst (λ (m : Machine). IsSafe s start (reads ++ reads_of (es ++ e ∷ [])) m (disk_of o.site'))
    (more.state ∙ sym steps)
    (subst (λ (d : Disk). IsSafe s start (reads ++ reads_of (es ++ e ∷ [])) (state_after s r.machine (es ++ e ∷ [])) d)
    (sym (grown_disk o.site o.site' all tells keeps grew))
    (run_stays_safe s start reads r.machine (disk_of o.site) (es ++ e ∷ []) safe more.run)))

pub stopped_turns_stay_safe : StoppedTurnsStaySafe
stopped_turns_stay_safe s start reads stop r r' o setting tells keeps w off safe =
    stopped_stay_safe s start reads (reads_by w.halted) stop r r' o setting tells keeps w
    (came_halted w.request stop w.between r' _ w.halted (subst IsTrue (sym w.site_tells) tells) off) safe
