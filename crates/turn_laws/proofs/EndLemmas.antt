-- A run that is done, and each stop within a whole run.
use Rattle.std.proofs.Common.{◌≡◌, ℕ, ◌-◌, Bool, true, false, ◌&&◌, IsTrue, if◌then◌else◌, List, [], ◌∷◌, ◌++◌, length, map, Option, Some, None, is_none, Ok, refl, sym, ap, subst, ◌∙◌, arith, append_assoc, append-nil}
use Rattle.std.proofs.Math.Bool.{and-false}
use Rattle.std.specs.List.{flat_map}
use Rattle.std.proofs.lemmas.Grind.{flat_map-append}
use Rattle.std.proofs.lemmas.List.{map-append}
use Rattle.fault_count.specs.Schedule.{no_schedule}
use Rattle.crash_site.specs.Calls.{Call, Entry, Done, image_sync}
use Rattle.crash_site.specs.Disk.{Disk, synced, at_rest, disk_after}
use Rattle.crash_site.specs.Folder.{Folder}
use Rattle.crash_site.specs.SiteState.{SiteState}
use Rattle.crash_site.specs.SiteChanges.{Keeps}
use Rattle.crash_site.proofs.DiskLemmas.{run-append}
use Rattle.crash_site.proofs.LawLemmas.{shows_synced}
use Rattle.mapfile_save.specs.MapNames.{HasOwnDraft}
use Rattle.mapfile_save.specs.Saving.{save_calls}
use Rattle.mapfile_save.specs.SaveStops.{disk_of, IsSaved}
use Rattle.mapfile_save.proofs.FillLemmas.{keeps_more}
use Rattle.mapfile_save.proofs.StopLemmas.{saved_where_ok}
use Rattle.rescue_rules.specs.declared.stop.Stop.{Stop}
use Rattle.rescue_rules.specs.declared.stop.Stop.TheVariants.{SourceLost, Site, LimitMet, NoMemory}
use Rattle.rescue_rules.specs.declared.stop.Limit.{Limit}
use Rattle.rescue_rules.specs.declared.stop.RunEnd.{RunEnd}
use Rattle.rescue_rules.specs.declared.stop.RunEnd.TheVariants.{Done as RunDone, Stopped, SaveFailed}
use Rattle.rescue_rules.specs.declared.phase.Phase.TheVariants.{Copying, Trimming, Scraping}
use Rattle.rescue_rules.specs.Setting.{Setting, IsSensible}
use Rattle.rescue_rules.specs.Passes.{Pass, numbered, copying_passes}
use Rattle.rescue_rules.specs.Machine.{Machine}
use Rattle.rescue_rules.specs.Step.{Event}
use Rattle.rescue_rules.specs.Moves.{Move, ready, no_pass_left, move_of, moves, state_after, has_ended, IsRun}
use Rattle.rescue_rules.specs.Snapshots.{Snapshot, text_of, snapshot_of, finished_snapshot, last_snapshot}
use Rattle.rescue_rules.specs.RunCalls.{move_calls, run_calls, closing_calls, end_calls}
use Rattle.rescue_rules.specs.RunStops.{ComesTo}
use Rattle.rescue_rules.specs.Nameless.{nameless}
use Rattle.rescue_rules.specs.Work.{EndsBy, end_of, Ends, IsSaved as RunSaved, IsUnsaved, IsBroken}
use Rattle.rescue_rules.proofs.MoveLemmas.{moves_more}
use Rattle.rescue_rules.proofs.NamelessLemmas.{run_named}
use Rattle.rescue_rules.proofs.RunDeedLemmas.{last_map}
use Rattle.rescue_rules.proofs.RunStopLemmas.{run_stops_safely}
use Rattle.rescue_rules.specs.Across.{Across}
use Rattle.rescue_core.specs.RunState.{RunState, setting_in}
use Rattle.rescue_core.specs.Closing.{LastSave, Saved, Unsaved}
use Rattle.rescue_phases.specs.Turns.{Went}
use Rattle.task_rescue.specs.Running.{WentToEnd}
use Rattle.task_rescue.proofs.EndLemmas.{after_over, finished_alike}
use Rattle.task_rescue.proofs.LastLemmas.{past_all}
use Rattle.ddrescue_laws.proofs.DoneLemmas.{last_finished}
use Rattle.turn_laws.specs.UnderWay.{StillComes, Now, Later, IsUnderWay}
use Rattle.turn_laws.specs.Ended.{IsLastSaved, IsWellEnded}
use Rattle.turn_laws.specs.EndLaws.{PhasesEndWell, DoneEndsWell, StoppedIsSaved, WholeRunIsHeld, WholeRunIsKept}
use Rattle.turn_laws.specs.PhaseLaws.{is_at_call}
use Rattle.turn_laws.proofs.SafeLemmas.{comes_all, comes_past, comes_more}
use Rattle.turn_laws.proofs.SiteLemmas.{Grew, broke_grew, left_within}
use Rattle.turn_laws.proofs.PhaseLemmas.{TurnsRun, turns_run}
use Rattle.turn_laws.proofs.WellLemmas.{under_way_ends_well}

-- a site that has made these calls over a folder, and no draft is begun
abbrev made_over : Folder → List Entry → SiteState
made_over start calls = record {
  tells = true;
  start = start;
  calls = calls;
  is_open = true;
  is_drafting = false;
  faults = 0;
  is_scheduled = false;
  schedule = no_schedule;
  starved = 0;
}

-- what the calls of a close leave
saved_by : (s : Setting) (p : Snapshot) (start : Folder) (calls : List Entry) → HasOwnDraft s.names
    → IsSaved s.names (text_of s.line p) (disk_after (at_rest start) calls)
    (disk_after (at_rest start) (calls ++ map Done (save_calls s.names (text_of s.line p))))
saved_by s p start calls own =
    let made : List Call = save_calls s.names (text_of s.line p) in
    saved_where_ok s.names (text_of s.line p) (Ok true) (made_over start calls)
    (made_over start (calls ++ map Done made))
    (record {
      keeps = record { tells = refl; start = λ tells. refl; scheduled = refl; later = omega arith };
      made = record { made = λ tells. refl; faults = refl };
      broke = tt;
      named = tt;
      image = refl;
      draft = refl;
      draft_left = tt;
    }) refl own

last_saved : (s : Setting) (p : Snapshot) (start : Folder) (calls : List Entry) (now : Disk)
    → now ≡ disk_after (at_rest start) (calls ++ map Done (closing_calls s p))
    → IsLastSaved s p (disk_after (at_rest start) calls) now
last_saved s p start calls now is =
    let was : Disk = disk_after (at_rest start) calls in
    let made : List Call = save_calls s.names (text_of s.line p) in
    let at : Bool → Disk = λ b. disk_after (at_rest start) (calls ++ map Done (if b then made else image_sync ∷ [])) in
    record {
      mapfile = λ on own.
          subst (IsSaved s.names (text_of s.line p) was) (sym (is ∙ ap at on)) (saved_by s p start calls own);
      output = λ off image open_.
          subst (λ (d : Disk). d.shows image ≡ synced (was.reads.files image) (was.shows image))
          (sym (is ∙ ap at off ∙ run-append (at_rest start) calls (Done image_sync ∷ [])))
          (shows_synced was was.reads.image image open_);
    }

-- what they leave after those of a run
closed_saved : (s : Setting) (m : Machine) (es : List Event) (p : Snapshot) (site site' : SiteState)
    → IsTrue site.tells → Keeps site site'
    → site'.calls ≡ site.calls ++ map Done (run_calls s m es ++ closing_calls s p)
    → IsLastSaved s p (disk_after (disk_of site) (map Done (run_calls s m es))) (disk_of site')
closed_saved s m es p site site' tells keeps made =
    let turns : List Entry = map Done (run_calls s m es) in
    let close : List Entry = map Done (closing_calls s p) in
    let calls : site'.calls ≡ (site.calls ++ turns) ++ close
    = made ∙ ap (λ (c : List Entry). site.calls ++ c) (map-append Done (run_calls s m es) (closing_calls s p))
    ∙ sym (append_assoc site.calls turns close) in
    let now : disk_of site' ≡ disk_after (at_rest site.start) ((site.calls ++ turns) ++ close)
    = ap (λ (f : Folder). disk_after (at_rest f) site'.calls) (keeps.start tells)
    ∙ ap (disk_after (at_rest site.start)) calls in
    subst (λ (d : Disk). IsLastSaved s p d (disk_of site')) (run-append (at_rest site.start) site.calls turns)
    (last_saved s p site.start (site.calls ++ turns) (disk_of site') now)

-- a run whose calls all returned, the last save's too
record AllMade (s : Setting) (m : Machine) (es : List Event) (site site' : SiteState) : Type 0 where
  over : has_ended s (state_after s m es) ≡ true
  calls : site'.calls ≡ site.calls ++ map Done (run_calls s m es ++ closing_calls s (finished_snapshot (state_after s m es)))

all_made_ends : (s : Setting) (m : Machine) (es : List Event) (site site' : SiteState) → IsSensible s → IsUnderWay s m
    → IsRun s m es → IsTrue site.tells → Keeps site site' → AllMade s m es site site'
    → IsWellEnded s m es (disk_of site) (disk_of site')
all_made_ends s m es site site' ok w run tells keeps made = record {
  over = made.over;
  well = under_way_ends_well s m es ok w run made.over;
  saved = closed_saved s m es (finished_snapshot (state_after s m es)) site site' tells keeps made.calls;
}

-- What is so of a run without the names of its files is so with them.
comes_named : (s : Setting) (m : Machine) (p : Pass) (x : ℕ) → StillComes (nameless s) m p x → StillComes s m p x
comes_named s m p x (Now ps is ahead) = Now ps is ahead
comes_named s m p x (Later has) = Later has

way_named : (s : Setting) (r : RunState) → setting_in r ≡ nameless s → IsUnderWay (setting_in r) r.machine
    → IsUnderWay s r.machine
way_named s r setting way =
    let m : Machine = r.machine in
    let w : IsUnderWay (nameless s) m = subst (λ (x : Setting). IsUnderWay x m) setting way in
    record {
      order = record { tail = w.order.tail; lead = w.order.lead };
      first = w.first;
      past = w.past;
      passes = w.passes;
      tried = λ x live has. comes_named s m (numbered Copying copying_passes) x (w.tried x live has);
      trimmed = λ on x live has. comes_named s m (numbered Trimming 1) x (w.trimmed on x live has);
      scraped = λ on x live has. comes_named s m (numbered Scraping 1) x (w.scraped on x live has);
    }

sensible_named : (s : Setting) (r : RunState) → setting_in r ≡ nameless s → IsSensible (setting_in r) → IsSensible s
sensible_named s r setting sensible =
    let ok : IsSensible (nameless s) = subst IsSensible setting sensible in
    record {
      sector = ok.sector;
      sectors = ok.sectors;
      some = ok.some;
      cluster = ok.cluster;
      from = ok.from;
      retries = ok.retries;
    }

-- the phases and the close
closes_made : (s : Setting) (r r' : RunState) (o : Across) (site : SiteState) → setting_in r ≡ nameless s
    → IsTrue o.site.tells → Keeps o.site o.site' → (w : Went r r' o)
    → has_ended (setting_in r) (state_after (setting_in r) r.machine w.events) ≡ true
    → LastSave None r' RunDone o.site' site → AllMade s r.machine w.events o.site site
closes_made s r r' o site setting tells keeps w over (Saved is makes draft) =
    let t : TurnsRun s r r' w.events o.site o.site' = turns_run s r r' o setting tells w in
    let k : Machine = state_after s r.machine w.events in
    let over' : has_ended s k ≡ true
    = subst (λ (x : Setting). has_ended x (state_after x r.machine w.events) ≡ true) setting over in
    let turns : List Call = run_calls s r.machine w.events in
    let close : List Call = closing_calls s (finished_snapshot k) in
    let same : finished_snapshot r'.machine ≡ finished_snapshot k
    = finished_alike s k r'.machine t.alike in
    let are : closing_calls (setting_in r') (finished_snapshot r'.machine) ≡ close
    = ap (λ (x : Setting). closing_calls x (finished_snapshot r'.machine)) t.setting ∙ ap (closing_calls s) same in
    record {
      over = over';
      calls = makes.made (subst IsTrue (sym keeps.tells) tells)
          ∙ ap (λ (c : List Entry). c ++ map Done (closing_calls (setting_in r') (finished_snapshot r'.machine))) t.calls
          ∙ append_assoc o.site.calls (map Done turns) (map Done (closing_calls (setting_in r') (finished_snapshot r'.machine)))
          ∙ ap (λ (c : List Call). o.site.calls ++ (map Done turns ++ map Done c)) are
          ∙ ap (λ (c : List Entry). o.site.calls ++ c) (sym (map-append Done turns close));
    }
closes_made s r r' o site setting tells keeps w over (Unsaved call is names breaks draft) =
    absurd (let no : RunDone ≡ SaveFailed call None = is in cc)

pub phases_end_well : PhasesEndWell
phases_end_well s r r' o site setting ok under tells keeps after w passed closes =
    let over : has_ended (setting_in r) (state_after (setting_in r) r.machine w.events) ≡ true
    = after_over r r' w.events true w.stands w.state (past_all r' passed) in
    let t : TurnsRun s r r' w.events o.site o.site' = turns_run s r r' o setting tells w in
    all_made_ends s r.machine w.events o.site site (sensible_named s r setting ok) (way_named s r setting under) t.run tells
    (keeps_more o.site o.site' site keeps after)
    (closes_made s r r' o site setting tells keeps w over closes)

-- a whole run
done_only : (stop : Option Stop) → RunDone ≡ end_of stop → stop ≡ None
done_only None is = refl
done_only (Some stop) is = absurd (cc)

done_made : (s : Setting) (m : Machine) (es : List Event) (site site' : SiteState) (gained : List Entry)
    → site'.calls ≡ site.calls ++ gained → Ends (nameless s) m es gained RunDone → AllMade s m es site site'
done_made s m es site site' gained grew (RunSaved stop ends is all) =
    let none : stop ≡ None = done_only stop is in
    let over : has_ended s (state_after s m es) ≡ true
    = (subst (λ (o : Option Stop). EndsBy o (nameless s) (state_after (nameless s) m es)) none ends) in
    record {
      over = over;
      calls = grew ∙ ap (λ (c : List Entry). site.calls ++ c) all
          ∙ ap (λ (p : Snapshot). site.calls ++ map Done (run_calls s m es ++ closing_calls s p))
          (last_finished s (state_after s m es) over);
    }
done_made s m es site site' gained grew (IsUnsaved stop call ends is broke) =
    absurd (let no : RunDone ≡ SaveFailed call stop = is in cc)
done_made s m es site site' gained grew (IsBroken before last call split is broke) =
    absurd (let no : RunDone ≡ Stopped (Site call) = is in cc)

-- its end by the setting with all names
named_ends : (s : Setting) (r : RunState) (end : RunEnd) (heard : Bool) (o : Across) → setting_in r ≡ nameless s
    → (w : WentToEnd r end heard o) → Ends (nameless s) r.machine w.events w.gained end
named_ends s r end heard o setting w =
    subst (λ (x : Setting). Ends x r.machine w.events w.gained end) setting w.ends

named_run : (s : Setting) (r : RunState) (end : RunEnd) (heard : Bool) (o : Across) → setting_in r ≡ nameless s
    → (w : WentToEnd r end heard o) → IsRun s r.machine w.events
named_run s r end heard o setting w =
    run_named s r.machine w.events (subst (λ (x : Setting). IsRun x r.machine w.events) setting w.run)

pub done_ends_well : DoneEndsWell
done_ends_well s r heard o setting ok under tells keeps w =
    all_made_ends s r.machine w.events o.site o.site' (sensible_named s r setting ok) (way_named s r setting under)
    (named_run s r RunDone heard o setting w) tells keeps
    (done_made s r.machine w.events o.site o.site' w.gained (w.grew tells)
    (named_ends s r RunDone heard o setting w))

-- a whole run that stopped, but not at a call on the files, has not ended
not_over : (s : Setting) (m : Machine) (other : Option Stop) (stop : Stop) → Stopped stop ≡ end_of other
    → EndsBy other s m → has_ended s m ≡ false
not_over s m None stop is ends = absurd (let no : Stopped stop ≡ RunDone = is in cc)
not_over s m (Some SourceLost) stop is ends = ends.0
not_over s m (Some (Site call)) stop is ends = absurd ends
not_over s m (Some (LimitMet limit)) stop is ends =
    let none : Bool = no_pass_left (ready s m).passes in
    ap (λ (l : Option Limit). none && is_none l) ends ∙ and-false none
not_over s m (Some NoMemory) stop is ends = ends.0

stopped_made : (s : Setting) (m : Machine) (es : List Event) (stop : Stop) (old gained : List Entry)
    → is_at_call stop ≡ false → Ends (nameless s) m es gained (Stopped stop)
    → old ++ gained ≡ old ++ map Done (run_calls s m es ++ closing_calls s (snapshot_of (state_after s m es)))
stopped_made s m es stop old gained off (RunSaved other ends is all) =
    let k : Machine = state_after s m es in
    let on : has_ended s k ≡ false = not_over (nameless s) k other stop is ends in
    ap (λ (c : List Entry). old ++ c) all
    ∙ ap (λ (b : Bool). old
    ++ map Done (run_calls s m es ++ closing_calls s (if b then finished_snapshot k else snapshot_of k))) on
stopped_made s m es stop old gained off (IsUnsaved other call ends is broke) =
    absurd (let no : Stopped stop ≡ SaveFailed call other = is in cc)
stopped_made s m es stop old gained off (IsBroken before last call split is broke) =
    let same : stop ≡ Site call = cc in
    absurd (let no : true ≡ false = sym (ap is_at_call same) ∙ off in cc)

pub stopped_is_saved : StoppedIsSaved
stopped_is_saved s r stop heard o setting tells keeps off w =
    let p : Snapshot = snapshot_of (state_after s r.machine w.events) in
    closed_saved s r.machine w.events p o.site o.site' tells keeps
    (w.grew tells ∙ stopped_made s r.machine w.events stop o.site.calls w.gained off
    (named_ends s r (Stopped stop) heard o setting w))

-- the calls of a run and of its last save come to this
abbrev whole_calls : Setting → Machine → List Event → List Call
whole_calls s m es = run_calls s m es ++ closing_calls s (last_snapshot s (state_after s m es))

ends_come : (s : Setting) (m : Machine) (es : List Event) (gained : List Entry) (end : RunEnd)
    → Ends (nameless s) m es gained end → ComesTo (whole_calls s m es) gained
ends_come s m es gained end (RunSaved stop ends is all) =
    subst (ComesTo (whole_calls s m es)) (sym all) (comes_all (whole_calls s m es))
ends_come s m es gained end (IsUnsaved stop call ends is broke) =
    let turns : List Call = run_calls s m es in
    let g : Grew (end_calls s m es) (map Done turns) gained = broke_grew call (end_calls s m es) (map Done turns) gained broke in
    subst (ComesTo (whole_calls s m es)) (sym g.is) (comes_past turns (end_calls s m es) g.more g.comes)
ends_come s m es gained end (IsBroken before last call split is broke) =
    let v : Move = move_of s (state_after s m before) last in
    let turns : List Call = run_calls s m before in
    let g : Grew (move_calls s v) (map Done turns) gained = broke_grew call (move_calls s v) (map Done turns) gained broke in
    let all : run_calls s m (before ++ last ∷ []) ≡ turns ++ move_calls s v
    = ap (flat_map (move_calls s)) (moves_more s m before last)
    ∙ flat_map-append (move_calls s) (moves s m before) (v ∷ [])
    ∙ ap (λ (cs : List Call). turns ++ cs) (append-nil (move_calls s v)) in
    let comes : ComesTo (run_calls s m es) gained
    = subst (λ (l : List Event). ComesTo (run_calls s m l) gained) (sym split)
    (subst (λ (cs : List Call). ComesTo cs gained) (sym all)
    (subst (ComesTo (turns ++ move_calls s v)) (sym g.is) (comes_past turns (move_calls s v) g.more g.comes))) in
    comes_more (run_calls s m es) (closing_calls s (last_snapshot s (state_after s m es))) gained comes

pub whole_run_is_held : WholeRunIsHeld
whole_run_is_held s start reads r end heard o files setting tells keeps w safe l =
    let m : Machine = r.machine in
    let last : Snapshot = last_snapshot s (state_after s m w.events) in
    safe.each w.events last w.gained (l.moment - length o.site.calls) files (named_run s r end heard o setting w)
    (last_map s (state_after s m w.events))
    (ends_come s m w.events w.gained end (named_ends s r end heard o setting w))
    (left_within o.site o.site' w.gained files tells keeps (w.grew tells) l)

pub whole_run_is_kept : WholeRunIsKept
whole_run_is_kept s began r end heard o files by setting tells keeps w alike rests l =
    run_stops_safely s began r.machine w.events (disk_of o.site) w.gained (l.moment - length o.site.calls) files
    by.sensible by.mapfile by.names by.order alike (named_run s r end heard o setting w) rests
    (ends_come s r.machine w.events w.gained end (named_ends s r end heard o setting w))
    (left_within o.site o.site' w.gained files tells keeps (w.grew tells) l)
