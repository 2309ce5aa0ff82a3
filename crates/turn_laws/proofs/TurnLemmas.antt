-- A turn of a safe run.
use Rattle.std.proofs.Common.{◌≡◌, ℕ, ◌+◌, ◌-◌, Bool, true, false, ◌&&◌, IsTrue, if◌then◌else◌, List, [], ◌∷◌, ◌++◌, length, map, Option, Some, is_none, refl, sym, ap, subst, ◌∙◌, arith, append_assoc, append-nil}
use Rattle.std.proofs.Math.Bool.{and-false}
use Rattle.std.proofs.lemmas.List.Elements.{All-nil, All-cons}
use Rattle.faulty_source.specs.Journal.{Reading}
use Rattle.crash_site.specs.declared.site.SiteCall.TheVariants.{ImageWrite}
use Rattle.crash_site.specs.Files.{File}
use Rattle.crash_site.specs.Calls.{Call, Entry, Done}
use Rattle.crash_site.specs.Disk.{Disk, disk_after}
use Rattle.crash_site.specs.SiteState.{SiteState}
use Rattle.crash_site.specs.SiteChanges.{Keeps}
use Rattle.mapfile_save.specs.SaveStops.{disk_of}
use Rattle.mapfile_save.specs.Saving.{save_calls}
use Rattle.transfer_token.specs.declared.token.Request.{Request}
use Rattle.mapfile_save.specs.MapNames.{names_in}
use Rattle.rescue_rules.specs.declared.stop.Stop.{Stop}
use Rattle.rescue_rules.specs.declared.stop.Limit.{Limit}
use Rattle.rescue_rules.specs.Setting.{Setting}
use Rattle.rescue_rules.specs.Machine.{Machine, IsRequest}
use Rattle.rescue_rules.specs.Step.{Event, is_timely, limit_met, step}
use Rattle.rescue_rules.specs.Moves.{Move, ready, move_of, state_after, IsMove, IsRun}
use Rattle.rescue_rules.specs.Snapshots.{Snapshot, text_of, snapshot_of, is_due}
use Rattle.rescue_rules.specs.RunCalls.{write_calls, due_calls, move_calls, run_calls, closing_calls}
use Rattle.rescue_rules.specs.RunStops.{ComesTo}
use Rattle.rescue_rules.specs.Nameless.{nameless, RunsAlike}
use Rattle.rescue_rules.proofs.NamelessLemmas.{run_named, runs_alike}
use Rattle.rescue_rules.proofs.ReadyLemmas.{ready_here}
use Rattle.rescue_rules.proofs.SearchLemmas.{request_seen}
use Rattle.rescue_rules.specs.Across.{Across}
use Rattle.rescue_core.specs.RunState.{RunState, setting_in}
use Rattle.rescue_core.specs.Turning.{IsEvent, move_by, Halted, Starved, Lost, Unwritten, Limited, Unsaved}
use Rattle.turn_laws.specs.Safe.{IsHeldIn, IsSafe}
use Rattle.turn_laws.specs.Laws.{IsLeftWithin, IsTurnOf, reads_by, TurnStaysSafe, TurnIsHeld, HaltedTurnIsHeld}
use Rattle.turn_laws.specs.PhaseLaws.{is_at_call, HaltedTurnStaysSafe}
use Rattle.turn_laws.proofs.SafeLemmas.{comes_all, comes_past, comes_more, run_stays_safe}
use Rattle.turn_laws.proofs.SiteLemmas.{Grew, broke_grew, grown_disk, left_within}

-- the calls of a run without names are those with them
pub calls_named : (s n : Setting) (m : Machine) (es : List Event) → n ≡ nameless s → run_calls n m es ≡ run_calls s m es
calls_named s n m es is = ap (λ (x : Setting). run_calls x m es) is ∙ (runs_alike s m es).calls

-- A turn's event is a run of its own, by the setting with all names.
pub record TurnRun (s : Setting) (r : RunState) (e : Event) : Type 0 where
  pub run : IsRun s r.machine (e ∷ [])
  pub calls : run_calls s r.machine (e ∷ []) ≡ move_calls (setting_in r) (move_by r e)
  pub state : state_after s r.machine (e ∷ []) ≡ step (setting_in r) r.machine e

pub turn_run : (s : Setting) (request : Request) (r : RunState) (o : Across) (e : Event) → IsTurnOf s request r o
    → IsEvent request e o.source o.source' o.clock o.clock' → TurnRun s r e
turn_run s request r o e h is =
    let n : Setting = setting_in r in
    let m : Machine = r.machine in
    let p : ℕ = e.reading.pos in
    let to : request.pos + request.len ≡ p + e.reading.asked = omega (arith, is.pos, is.asked) in
    let asks : IsRequest n m p (p + e.reading.asked)
    = subst (λ (q : ℕ). IsRequest n m p q) to
    (subst (λ (q : ℕ). IsRequest n m q (request.pos + request.len)) (sym is.pos) h.asks) in
    let here : ready n m ≡ m = ready_here n m (request_seen n m p (p + e.reading.asked) asks) in
    let by : Machine → Move = λ x. record { before = x; event = e; after = step n x e } in
    let same : move_of n m e ≡ move_by r e = ap by here in
    let move : IsMove n (move_of n m e)
    = subst (IsMove n) (sym same) (record { request = asks; few = omega (arith, is.few, is.asked); within = h.within }) in
    let run : IsRun n m (e ∷ []) = record { each = All-cons (IsMove n) (move_of n m e) [] move (All-nil (IsMove n)) } in
    let alike : RunsAlike s m (e ∷ []) = runs_alike s m (e ∷ []) in
    record {
      run = run_named s m (e ∷ []) (subst (λ (x : Setting). IsRun x m (e ∷ [])) h.setting run);
      calls = sym (calls_named s n m (e ∷ []) h.setting) ∙ append-nil (move_calls n (move_of n m e))
          ∙ ap (move_calls n) same;
      state = sym alike.state ∙ ap (λ (x : Setting). state_after x m (e ∷ [])) (sym h.setting)
          ∙ ap (λ (v : Move). v.after) same;
    }

-- an event with all its calls leaves the run safe
event_stays_safe : (s : Setting) (start : List ℕ) (reads : List Reading) (request : Request) (r : RunState) (o : Across)
    (e : Event) → IsTurnOf s request r o → IsEvent request e o.source o.source' o.clock o.clock'
    → o.site'.calls ≡ o.site.calls ++ map Done (move_calls (setting_in r) (move_by r e))
    → IsSafe s start reads r.machine (disk_of o.site)
    → IsSafe s start (reads ++ e.reading ∷ []) (step (setting_in r) r.machine e) (disk_of o.site')
event_stays_safe s start reads request r o e h is calls safe =
    let run : TurnRun s r e = turn_run s request r o e h is in
    let made : List Call = move_calls (setting_in r) (move_by r e) in
    let disk : disk_of o.site' ≡ disk_after (disk_of o.site) (map Done made)
    = grown_disk o.site o.site' (map Done made) h.tells h.keeps calls in
    subst (λ (m : Machine). IsSafe s start (reads ++ e.reading ∷ []) m (disk_of o.site')) run.state
    (subst (λ (d : Disk). IsSafe s start (reads ++ e.reading ∷ []) (state_after s r.machine (e ∷ [])) d)
    (ap (λ (cs : List Call). disk_after (disk_of o.site) (map Done cs)) run.calls ∙ sym disk)
    (run_stays_safe s start reads r.machine (disk_of o.site) (e ∷ []) safe run.run))

pub turn_stays_safe : TurnStaysSafe
turn_stays_safe s start reads request turn r r' o h t safe =
    subst (λ (m : Machine). IsSafe s start (reads ++ t.event.reading ∷ []) m (disk_of o.site'))
    (sym (ap (λ (x : RunState). x.machine) t.steps))
    (event_stays_safe s start reads request r o t.event h t.is (t.calls.made h.tells) safe)

-- where a turn's calls come to a part of them
part_is_held : (s : Setting) (start : List ℕ) (reads : List Reading) (request : Request) (r : RunState) (o : Across)
    (e : Event) (files : List ℕ → Option File) → IsTurnOf s request r o
    → IsEvent request e o.source o.source' o.clock o.clock'
    → Grew (move_calls (setting_in r) (move_by r e)) o.site.calls o.site'.calls
    → IsSafe s start reads r.machine (disk_of o.site) → IsLeftWithin o.site o.site' files
    → IsHeldIn s start (reads ++ e.reading ∷ []) files
part_is_held s start reads request r o e files h is g safe l =
    let run : TurnRun s r e = turn_run s request r o e h is in
    let comes : ComesTo (run_calls s r.machine (e ∷ [])) g.more
    = subst (λ (cs : List Call). ComesTo cs g.more) (sym run.calls) g.comes in
    let last : Snapshot = snapshot_of (state_after s r.machine (e ∷ [])) in
    safe.each (e ∷ []) last g.more (l.moment - length o.site.calls) files run.run refl
    (comes_more (run_calls s r.machine (e ∷ [])) (closing_calls s last) g.more comes)
    (left_within o.site o.site' g.more files h.tells h.keeps g.is l)

pub turn_is_held : TurnIsHeld
turn_is_held s start reads request turn r r' o files h t safe l =
    let made : List Call = move_calls (setting_in r) (move_by r t.event) in
    part_is_held s start reads request r o t.event files h t.is
    (record { more = map Done made; is = t.calls.made h.tells; comes = comes_all made }) safe l

-- where the site stands
pub still_is_held : (s : Setting) (start : List ℕ) (reads : List Reading) (m : Machine) (site site' : SiteState)
    (files : List ℕ → Option File) → IsTrue site.tells → Keeps site site' → site' ≡ site
    → IsSafe s start reads m (disk_of site) → IsLeftWithin site site' files → IsHeldIn s start (reads ++ []) files
still_is_held s start reads m site site' files tells keeps same safe l =
    safe.each [] (snapshot_of m) [] (l.moment - length site.calls) files (record { each = All-nil (IsMove s) }) refl tt
    (left_within site site' [] files tells keeps (ap (λ (x : SiteState). x.calls) same ∙ sym (append-nil site.calls)) l)

-- the save that is due after a turn's write
due_grew : (r r' : RunState) (e : Event) (old new : List Entry)
    → r'.machine ≡ step (setting_in r) r.machine e → is_due (setting_in r) (move_by r e) ≡ true
    → Grew (save_calls (names_in r.names) (text_of r.line (snapshot_of r'.machine)))
    (old ++ map Done (write_calls (setting_in r) e.reading)) new
    → Grew (move_calls (setting_in r) (move_by r e)) old new
due_grew r r' e old new steps due g =
    let n : Setting = setting_in r in
    let writes : List Call = write_calls n e.reading in
    let save : List Call = save_calls n.names (text_of n.line (snapshot_of (step n r.machine e))) in
    let is_save : due_calls n (move_by r e) ≡ save = ap (λ (b : Bool). if b then save else []) due in
    let comes : ComesTo save g.more
    = subst (λ (m : Machine). ComesTo (save_calls n.names (text_of n.line (snapshot_of m))) g.more) steps g.comes in
    record {
      more = map Done writes ++ g.more;
      is = g.is ∙ append_assoc old (map Done writes) g.more;
      comes = comes_past writes (due_calls n (move_by r e)) g.more
          (subst (λ (cs : List Call). ComesTo cs g.more) (sym is_save) comes);
    }

-- if a limit is met no save is due after the write
limited_calls : (r r' : RunState) (e : Event) (limit : Limit) → r'.machine ≡ step (setting_in r) r.machine e
    → limit_met (setting_in r) r'.machine ≡ Some limit
    → move_calls (setting_in r) (move_by r e) ≡ write_calls (setting_in r) e.reading
limited_calls r r' e limit steps is =
    let n : Setting = setting_in r in
    let v : Move = move_by r e in
    let met : limit_met n v.after ≡ Some limit = ap (limit_met n) (sym steps) ∙ is in
    let timely : Bool = n.has_mapfile && is_timely v.before v.event in
    let none : is_due n v ≡ false
    = ap (λ (l : Option Limit). timely && is_none l) met ∙ and-false timely in
    let save : List Call = save_calls n.names (text_of n.line (snapshot_of v.after)) in
    ap (λ (b : Bool). write_calls n e.reading ++ (if b then save else [])) none ∙ append-nil (write_calls n e.reading)

-- What a turn that stopped did: it read nothing, or an event of its request, with calls that come to a part of its own.
pub data DidHalted (request : Request) (r : RunState) (o : Across) (reads : List Reading) : Type 0 where
  Unread : reads ≡ [] → o.site' ≡ o.site → DidHalted request r o reads
  ReadOne : (e : Event) → reads ≡ e.reading ∷ [] → IsEvent request e o.source o.source' o.clock o.clock'
      → Grew (move_calls (setting_in r) (move_by r e)) o.site.calls o.site'.calls → DidHalted request r o reads

pub did_halted : (request : Request) (stop : Stop) (r r' : RunState) (o : Across) (h : Halted request stop r r' o)
    → IsTrue o.site.tells → DidHalted request r o (reads_by h)
did_halted request stop r r' o (Starved is same source site clock console) tells = Unread refl site
did_halted request stop r r' o (Lost is same loses site before small read console) tells = Unread refl site
did_halted request stop r r' o (Unwritten is same event read names breaks console) tells =
    let writes : List Call = write_calls (setting_in r) event.reading in
    let g : Grew writes o.site.calls o.site'.calls
    = broke_grew ImageWrite writes o.site.calls o.site'.calls (breaks.broke tells) in
    ReadOne event refl read (record {
      more = g.more;
      is = g.is;
      comes = comes_more writes (due_calls (setting_in r) (move_by r event)) g.more g.comes;
    })
did_halted request stop r r' o (Limited limit is event read steps met makes says) tells =
    let writes : List Call = write_calls (setting_in r) event.reading in
    ReadOne event refl read (record {
      more = map Done writes;
      is = makes.made tells;
      comes = comes_more writes (due_calls (setting_in r) (move_by r event)) (map Done writes) (comes_all writes);
    })
did_halted request stop r r' o (Unsaved call is event read steps due names broke rose says) tells =
    let n : Setting = setting_in r in
    let saves : List Call = save_calls (names_in r.names) (text_of r.line (snapshot_of r'.machine)) in
    ReadOne event refl read
    (due_grew r r' event o.site.calls o.site'.calls (ap (λ (x : RunState). x.machine) steps) due
    (broke_grew call saves (o.site.calls ++ map Done (write_calls n event.reading)) o.site'.calls (broke tells)))

did_is_held : (s : Setting) (start : List ℕ) (reads : List Reading) (request : Request) (r : RunState) (o : Across)
    (files : List ℕ → Option File) (own : List Reading) → IsTurnOf s request r o
    → IsSafe s start reads r.machine (disk_of o.site) → IsLeftWithin o.site o.site' files → DidHalted request r o own
    → IsHeldIn s start (reads ++ own) files
did_is_held s start reads request r o files own h safe l (Unread none site) =
    subst (λ (rs : List Reading). IsHeldIn s start (reads ++ rs) files) (sym none)
    (still_is_held s start reads r.machine o.site o.site' files h.tells h.keeps site safe l)
did_is_held s start reads request r o files own h safe l (ReadOne e one is grew) =
    subst (λ (rs : List Reading). IsHeldIn s start (reads ++ rs) files) (sym one)
    (part_is_held s start reads request r o e files h is grew safe l)

pub halted_turn_is_held : HaltedTurnIsHeld
halted_turn_is_held s start reads request stop r r' o files h halted safe l =
    did_is_held s start reads request r o files (reads_by halted) h safe l
    (did_halted request stop r r' o halted h.tells)

-- What a turn that stopped came to, unless it stopped at a call on the files: it stood, or made one whole event.
pub data CameHalted (request : Request) (r r' : RunState) (o : Across) (reads : List Reading) : Type 0 where
  Stood : reads ≡ [] → r' ≡ r → o.site' ≡ o.site → CameHalted request r r' o reads
  Stepped : (e : Event) → reads ≡ e.reading ∷ [] → IsEvent request e o.source o.source' o.clock o.clock'
      → r'.machine ≡ step (setting_in r) r.machine e
      → o.site'.calls ≡ o.site.calls ++ map Done (move_calls (setting_in r) (move_by r e))
      → CameHalted request r r' o reads

pub came_halted : (request : Request) (stop : Stop) (r r' : RunState) (o : Across) (h : Halted request stop r r' o)
    → IsTrue o.site.tells → is_at_call stop ≡ false → CameHalted request r r' o (reads_by h)
came_halted request stop r r' o (Starved is same source site clock console) tells off = Stood refl same site
came_halted request stop r r' o (Lost is same loses site before small read console) tells off = Stood refl same site
came_halted request stop r r' o (Unwritten is same event read names breaks console) tells off =
    absurd (let no : true ≡ false = sym (ap is_at_call is) ∙ off in cc)
came_halted request stop r r' o (Limited limit is event read steps met makes says) tells off =
    let steps' : r'.machine ≡ step (setting_in r) r.machine event = ap (λ (x : RunState). x.machine) steps in
    Stepped event refl read steps'
    (makes.made tells
    ∙ ap (λ (cs : List Call). o.site.calls ++ map Done cs) (sym (limited_calls r r' event limit steps' met)))
came_halted request stop r r' o (Unsaved call is event read steps due names broke rose says) tells off =
    absurd (let no : true ≡ false = sym (ap is_at_call is) ∙ off in cc)

came_stays_safe : (s : Setting) (start : List ℕ) (reads : List Reading) (request : Request) (r r' : RunState)
    (o : Across) (own : List Reading) → IsTurnOf s request r o → IsSafe s start reads r.machine (disk_of o.site)
    → CameHalted request r r' o own → IsSafe s start (reads ++ own) r'.machine (disk_of o.site')
came_stays_safe s start reads request r r' o own h safe (Stood none same site) =
    subst (λ (rs : List Reading). IsSafe s start rs r'.machine (disk_of o.site'))
    (sym (append-nil reads) ∙ ap (λ (rs : List Reading). reads ++ rs) (sym none))
    (subst (λ (x : SiteState). IsSafe s start reads r'.machine (disk_of x)) (sym site)
    (subst (λ (x : RunState). IsSafe s start reads x.machine (disk_of o.site)) (sym same) safe))
came_stays_safe s start reads request r r' o own h safe (Stepped e one is steps calls) =
    subst (λ (rs : List Reading). IsSafe s start (reads ++ rs) r'.machine (disk_of o.site')) (sym one)
    (subst (λ (m : Machine). IsSafe s start (reads ++ e.reading ∷ []) m (disk_of o.site')) (sym steps)
    (event_stays_safe s start reads request r o e h is calls safe))

pub halted_turn_stays_safe : HaltedTurnStaysSafe
halted_turn_stays_safe s start reads request stop r r' o h halted off safe =
    came_stays_safe s start reads request r r' o (reads_by halted) h safe
    (came_halted request stop r r' o halted h.tells off)
