-- A turn, whole or stopped at whatever call, leaves a run safe as its files stand.
use Rattle.std.proofs.Common.{◌≡◌, ◌⊎◌, inl, inr, ⊎_elim, ℕ, ◌+◌, Bool, true, false, IsTrue, if◌then◌else◌, nat_eq, List, [], ◌∷◌, ◌++◌, map, None, refl, sym, ap, subst, ◌∙◌, arith, append_assoc, append-nil}
use Rattle.block_list.specs.declared.status.Status.{Status}
use Rattle.faulty_source.specs.Journal.{Reading, kept}
use Rattle.crash_site.specs.declared.site.SiteCall.{SiteCall}
use Rattle.crash_site.specs.declared.site.SiteCall.TheVariants.{ImageWrite}
use Rattle.crash_site.specs.Calls.{Call, Entry, Done, Failed}
use Rattle.crash_site.specs.CallsMade.{BrokeAt}
use Rattle.crash_site.specs.Disk.{Disk, entered, disk_after}
use Rattle.crash_site.specs.SiteState.{SiteState}
use Rattle.mapfile_save.specs.SaveStops.{disk_of}
use Rattle.mapfile_save.specs.Saving.{save_calls}
use Rattle.transfer_token.specs.declared.token.Request.{Request}
use Rattle.mapfile_save.specs.MapNames.{names_in}
use Rattle.rescue_rules.specs.declared.stop.Stop.{Stop}
use Rattle.rescue_rules.specs.Setting.{Setting}
use Rattle.rescue_rules.specs.Held.{Held}
use Rattle.rescue_rules.specs.Machine.{Machine, IsRequest}
use Rattle.rescue_rules.specs.Step.{Event, limit_met, step}
use Rattle.rescue_rules.specs.Moves.{ready, move_of, state_after, IsRun}
use Rattle.rescue_rules.specs.Events.{reads_of}
use Rattle.rescue_rules.specs.Snapshots.{text_of, snapshot_of}
use Rattle.rescue_rules.specs.RunCalls.{write_calls, move_calls, run_calls}
use Rattle.rescue_rules.specs.RunStops.{ComesTo}
use Rattle.rescue_rules.specs.Nameless.{nameless}
use Rattle.rescue_rules.proofs.MoveLemmas.{run_rest}
use Rattle.rescue_rules.specs.Across.{Across}
use Rattle.rescue_core.specs.RunState.{RunState, setting_in}
use Rattle.rescue_core.specs.Turning.{IsEvent, move_by, Halted, Starved, Lost, Unwritten, Limited, Unsaved}
use Rattle.rescue_phases.proofs.AlikeLemmas.{run_alike}
use Rattle.turn_laws.specs.SafeNow.{IsClear, IsBacked, IsSafeNow}
use Rattle.turn_laws.specs.Laws.{IsTurnOf, reads_by}
use Rattle.turn_laws.specs.NowLaws.{StaysSafeNow, IsMapped, TurnStaysSafeNow, HaltedStaysSafeNow, PhaseStaysSafeNow, StoppedStaysSafeNow}
use Rattle.turn_laws.proofs.SiteLemmas.{Grew, broke_grew, grown_disk}
use Rattle.turn_laws.proofs.TurnLemmas.{TurnRun, turn_run}
use Rattle.turn_laws.proofs.PhaseLemmas.{TurnsRun, turns_run}
use Rattle.turn_laws.proofs.NowSaves.{SafeAfter, safe_after, after_more, site_safe}
use Rattle.turn_laws.proofs.NowRuns.{run_one, write_of, failed_write, read_now, wrote_now, mapped_next, run_stays_safe_now}

-- safety as the files stand depends on a state's map alone
pub same_map : (s : Setting) (start : List ℕ) (reads : List Reading) (m n : Machine) (d : Disk) → n.map ≡ m.map
    → IsSafeNow s start reads m d → IsSafeNow s start reads n d
same_map s start reads m n d same h = record {
  image = h.image;
  synced = h.synced;
  loose = h.loose;
  lost = h.lost;
  shows = h.shows;
  now = h.now;
  reads_as = h.reads_as;
  longer = h.longer;
  current = subst (λ (t : List Status). Held s reads start t h.now.bytes) (sym same) h.current;
  unlost = subst (λ (t : List Status). IsClear s start t h.lost) (sym same) h.unlost;
  maps = λ mapfile may. subst (λ (t : List Status). IsBacked s start reads t h.synced.bytes h.loose mapfile) (sym same)
      (h.maps mapfile may);
}

-- What a turn that stopped left: the calls that it made, and the state.
data Left (request : Request) (r r' : RunState) (o : Across) (own : List Reading) (more : List Entry) : Type 0 where
  Still : own ≡ [] → r'.machine ≡ r.machine → more ≡ [] → Left request r r' o own more
  Unwrote : (e : Event) → own ≡ e.reading ∷ [] → IsEvent request e o.source o.source' o.clock o.clock'
      → r'.machine ≡ r.machine → (more ≡ []) ⊎ ((steps : ℕ) × (more ≡ Failed (write_of (setting_in r) e) steps ∷ []))
      → Left request r r' o own more
  Wrote : (e : Event) → own ≡ e.reading ∷ [] → IsEvent request e o.source o.source' o.clock o.clock'
      → r'.machine ≡ step (setting_in r) r.machine e → (saving : List Entry)
      → more ≡ map Done (write_calls (setting_in r) e.reading) ++ saving
      → ComesTo (save_calls (setting_in r).names (text_of (setting_in r).line (snapshot_of r'.machine))) saving
      → Left request r r' o own more

record HasLeft (request : Request) (r r' : RunState) (o : Across) (own : List Reading) : Type 0 where
  more : List Entry
  grew : o.site'.calls ≡ o.site.calls ++ more
  left : Left request r r' o own more

-- a write that broke
unwrote : (none : Bool) (at : SiteCall) (c : Call) (old new : List Entry)
    → BrokeAt at (if none then [] else c ∷ []) old new
    → (new ≡ old) ⊎ ((steps : ℕ) × (new ≡ old ++ Failed c steps ∷ []))
unwrote true at c old new h = absurd h
unwrote false at c old new (inl (name, inl is)) = inr is
unwrote false at c old new (inl (name, inr is)) = inl is
unwrote false at c old new (inr h) = absurd h

has_left : (request : Request) (stop : Stop) (r r' : RunState) (o : Across) (h : Halted request stop r r' o)
    → IsTrue o.site.tells → HasLeft request r r' o (reads_by h)
has_left request stop r r' o (Starved is same source site clock console) tells = record {
  more = [];
  grew = ap (λ (x : SiteState). x.calls) site ∙ sym (append-nil o.site.calls);
  left = Still refl (ap (λ (x : RunState). x.machine) same) refl;
}
has_left request stop r r' o (Lost is same loses site before small read console) tells = record {
  more = [];
  grew = ap (λ (x : SiteState). x.calls) site ∙ sym (append-nil o.site.calls);
  left = Still refl (ap (λ (x : RunState). x.machine) same) refl;
}
has_left request stop r r' o (Unwritten is same e read names breaks console) tells =
    let n : Setting = setting_in r in
    let by : r'.machine ≡ r.machine = ap (λ (x : RunState). x.machine) same in
    ⊎_elim
    (λ (none : o.site'.calls ≡ o.site.calls). record {
      more = [];
      grew = none ∙ sym (append-nil o.site.calls);
      left = Unwrote e refl read by (inl refl);
    })
    (λ (one : (steps : ℕ) × (o.site'.calls ≡ o.site.calls ++ Failed (write_of n e) steps ∷ [])). record {
      more = Failed (write_of n e) one.0 ∷ [];
      grew = one.1;
      left = Unwrote e refl read by (inr (one.0, refl));
    })
    (unwrote (nat_eq (kept n.sector e.reading) 0) ImageWrite (write_of n e) o.site.calls o.site'.calls (breaks.broke tells))
has_left request stop r r' o (Limited limit is e read steps met makes says) tells =
    let writes : List Entry = map Done (write_calls (setting_in r) e.reading) in
    record {
      more = writes ++ [];
      grew = makes.made tells ∙ ap (λ (c : List Entry). o.site.calls ++ c) (sym (append-nil writes));
      left = Wrote e refl read (ap (λ (x : RunState). x.machine) steps) [] refl tt;
    }
has_left request stop r r' o (Unsaved call is e read steps due names broke rose says) tells =
    let n : Setting = setting_in r in
    let writes : List Entry = map Done (write_calls n e.reading) in
    let save : List Call = save_calls (names_in r.names) (text_of r.line (snapshot_of r'.machine)) in
    let g : Grew save (o.site.calls ++ writes) o.site'.calls
    = broke_grew call save (o.site.calls ++ writes) o.site'.calls (broke tells) in
    record {
      more = writes ++ g.more;
      grew = g.is ∙ append_assoc o.site.calls writes g.more;
      left = Wrote e refl read (ap (λ (x : RunState). x.machine) steps) g.more refl g.comes;
    }

-- a turn without its calls
abbrev calls_apart : Across → Across
calls_apart o = record o { site' = o.site }

turn_apart : (s : Setting) (request : Request) (r : RunState) (o : Across) → setting_in r ≡ nameless s
    → IsRequest (setting_in r) r.machine request.pos (request.pos + request.len)
    → limit_met (setting_in r) r.machine ≡ None → IsTrue o.site.tells → IsTurnOf s request r (calls_apart o)
turn_apart s request r o setting asks within tells = record {
  setting = setting;
  asks = asks;
  within = within;
  tells = tells;
  keeps = record { tells = refl; start = λ tells. refl; scheduled = refl; later = omega arith };
}

-- a turn that stopped, from a state alike
module _ (s : Setting) (start : List ℕ) (reads : List Reading) (request : Request) (r r' : RunState) (o : Across)
    (m : Machine) (d : Disk) (by : IsMapped s m) (next : ready s m ≡ ready s r.machine) (map_is : r.machine.map ≡ m.map)
    (h : IsTurnOf s request r (calls_apart o)) (n : IsSafeNow s start reads m d) where
  -- its event is a run from there
  from_here : (e : Event) → IsEvent request e o.source o.source' o.clock o.clock' → IsRun s m (e ∷ [])
  from_here e is = run_alike s r.machine m (e ∷ []) next (turn_run s request r (calls_apart o) e h is).run

  comes_there : (e : Event) → IsEvent request e o.source o.source' o.clock o.clock'
      → (move_of s m e).after ≡ step (setting_in r) r.machine e
  comes_there e is = ap (λ (k : Machine). step s k e) next ∙ (turn_run s request r (calls_apart o) e h is).state

  write_calls_are : (e : Event) → write_calls (setting_in r) e.reading ≡ write_calls s e.reading
  write_calls_are e = ap (λ (x : Setting). write_calls x e.reading) h.setting

  left_safe : (own : List Reading) (more : List Entry) → Left request r r' o own more
      → SafeAfter s start (reads ++ own) r'.machine d more
  left_safe own more (Still none same is) =
      inl (subst (λ (es : List Entry). IsSafeNow s start (reads ++ own) r'.machine (disk_after d es)) (sym is)
      (subst (λ (rs : List Reading). IsSafeNow s start rs r'.machine d)
      (sym (append-nil reads) ∙ ap (λ (rs : List Reading). reads ++ rs) (sym none))
      (same_map s start reads m r'.machine d (ap (λ (k : Machine). k.map) same ∙ map_is) n)))
  left_safe own more (Unwrote e one read same (inl is)) =
      inl (subst (λ (es : List Entry). IsSafeNow s start (reads ++ own) r'.machine (disk_after d es)) (sym is)
      (subst (λ (rs : List Reading). IsSafeNow s start (reads ++ rs) r'.machine d) (sym one)
      (same_map s start (reads ++ e.reading ∷ []) m r'.machine d (ap (λ (k : Machine). k.map) same ∙ map_is)
      (read_now s start reads m d e by (from_here e read) n))))
  left_safe own more (Unwrote e one read same (inr failed)) =
      let steps : ℕ = failed.0 in
      let run : IsRun s m (e ∷ []) = from_here e read in
      let at : Disk = entered d (Failed (write_of s e) steps) in
      inl (subst (λ (es : List Entry). IsSafeNow s start (reads ++ own) r'.machine (disk_after d es))
      (sym (failed.1 ∙ ap (λ (x : Setting). Failed (write_of x e) steps ∷ []) h.setting))
      (subst (λ (rs : List Reading). IsSafeNow s start (reads ++ rs) r'.machine at) (sym one)
      (same_map s start (reads ++ e.reading ∷ []) m r'.machine at (ap (λ (k : Machine). k.map) same ∙ map_is)
      (read_now s start reads m at e by run (failed_write s start reads m d e steps by run n)))))
  left_safe own more (Wrote e one read steps saving is comes) =
      let run : IsRun s m (e ∷ []) = from_here e read in
      let k : Machine = (move_of s m e).after in
      let all : List Reading = reads ++ e.reading ∷ [] in
      let writes : List Entry = map Done (write_calls s e.reading) in
      let to : Disk = disk_after d writes in
      let came : k ≡ r'.machine = comes_there e read ∙ sym steps in
      let save : List Call = save_calls s.names (text_of s.line (snapshot_of k)) in
      let comes' : ComesTo save saving
      = subst (λ (j : Machine). ComesTo (save_calls s.names (text_of s.line (snapshot_of j))) saving) (sym came)
      (subst (λ (x : Setting). ComesTo (save_calls x.names (text_of x.line (snapshot_of r'.machine))) saving)
      h.setting comes) in
      let now : SafeAfter s start all k to saving
      = safe_after s start all k (snapshot_of k) to saving by.names refl
      (wrote_now s start reads m d e by run n) comes' in
      subst (λ (es : List Entry). SafeAfter s start (reads ++ own) r'.machine d es)
      (sym (is ∙ ap (λ (cs : List Call). map Done cs ++ saving) (write_calls_are e)))
      (subst (λ (rs : List Reading). SafeAfter s start (reads ++ rs) r'.machine d (writes ++ saving)) (sym one)
      (subst (λ (j : Machine). SafeAfter s start all j d (writes ++ saving)) came
      (after_more s start all k d writes saving now)))

pub halted_stays_safe_now : HaltedStaysSafeNow
halted_stays_safe_now s start reads request stop r r' o by h t n =
    let l : HasLeft request r r' o (reads_by t) = has_left request stop r r' o t h.tells in
    site_safe s start (reads ++ reads_by t) r'.machine o.site o.site' l.more h.tells h.keeps l.grew
    (left_safe s start reads request r r' o r.machine (disk_of o.site) by refl refl
    (turn_apart s request r o h.setting h.asks h.within h.tells) n (reads_by t) l.more l.left)

pub turn_stays_safe_now : TurnStaysSafeNow
turn_stays_safe_now s start reads request turn r r' o by h t n =
    let e : Event = t.event in
    let run : TurnRun s r e = turn_run s request r o e h t.is in
    let made : List Call = move_calls (setting_in r) (move_by r e) in
    let all : List Reading = reads ++ e.reading ∷ [] in
    subst (λ (m : Machine). IsSafeNow s start all m (disk_of o.site'))
    (run.state ∙ sym (ap (λ (x : RunState). x.machine) t.steps))
    (subst (λ (d : Disk). IsSafeNow s start all (state_after s r.machine (e ∷ [])) d)
    (ap (λ (cs : List Call). disk_after (disk_of o.site) (map Done cs)) run.calls
    ∙ sym (grown_disk o.site o.site' (map Done made) h.tells h.keeps (t.calls.made h.tells)))
    (run_stays_safe_now s start reads r.machine (disk_of o.site) (e ∷ []) by n run.run))

pub phase_stays_safe_now : PhaseStaysSafeNow
phase_stays_safe_now s start reads r r' o by setting tells keeps w n =
    let t : TurnsRun s r r' w.events o.site o.site' = turns_run s r r' o setting tells w in
    let made : List Entry = map Done (run_calls s r.machine w.events) in
    let to : Machine = state_after s r.machine w.events in
    same_map s start (reads ++ reads_of w.events) to r'.machine (disk_of o.site') t.alike.map
    (subst (λ (d : Disk). IsSafeNow s start (reads ++ reads_of w.events) to d)
    (sym (grown_disk o.site o.site' made tells keeps t.calls))
    (run_stays_safe_now s start reads r.machine (disk_of o.site) w.events by n t.run))

-- the rules go on over a run
mapped_run : (s : Setting) (m : Machine) (es : List Event) → IsMapped s m → IsRun s m es → IsMapped s (state_after s m es)
mapped_run s m [] by run = by
mapped_run s m (e ∷ es) by run =
    mapped_run s (move_of s m e).after es (mapped_next s m e by (run_one s m e es run)) (run_rest s m e es run)

pub stopped_stays_safe_now : StoppedStaysSafeNow
stopped_stays_safe_now s start reads stop r r' o by setting tells keeps w n =
    let es : List Event = w.went.events in
    let q : RunState = w.between in
    let t : TurnsRun s r q es o.site w.site_between = turns_run s r q _ setting tells w.went in
    let made : List Entry = map Done (run_calls s r.machine es) in
    let to : Machine = state_after s r.machine es in
    let d : Disk = disk_after (disk_of o.site) made in
    let p : Across = record o {
      source = w.source_between;
      site = w.site_between;
      clock = w.clock_between;
      console = w.console_between;
    } in
    let own : List Reading = reads_by w.halted in
    let l : HasLeft w.request q r' p own = has_left w.request stop q r' p w.halted (subst IsTrue (sym w.site_tells) tells) in
    let all : o.site'.calls ≡ o.site.calls ++ (made ++ l.more)
    = l.grew ∙ ap (λ (c : List Entry). c ++ l.more) t.calls ∙ append_assoc o.site.calls made l.more in
    let now : SafeAfter s start ((reads ++ reads_of es) ++ own) r'.machine d l.more
    = left_safe s start (reads ++ reads_of es) w.request q r' p to d (mapped_run s r.machine es by t.run)
    (sym t.alike.next) t.alike.map
    (turn_apart s w.request q p t.setting w.asks w.within (subst IsTrue (sym w.site_tells) tells))
    (run_stays_safe_now s start reads r.machine (disk_of o.site) es by n t.run) own l.more l.left in
    subst (λ (rs : List Reading). StaysSafeNow s start rs r'.machine o.site') (append_assoc reads (reads_of es) own)
    (site_safe s start ((reads ++ reads_of es) ++ own) r'.machine o.site o.site' (made ++ l.more) tells keeps all
    (after_more s start ((reads ++ reads_of es) ++ own) r'.machine (disk_of o.site) made l.more now))
