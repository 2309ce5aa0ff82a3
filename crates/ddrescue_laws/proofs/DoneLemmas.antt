-- What is there after the answer of a rescue.
use Rattle.ddrescue_cli.proofs.RefusalLemmas.{undone}
use Rattle.program_promise.proofs.AnswerLemmas.{IsLoadIf, Passed, passed}
use Rattle.std.proofs.Common.{◌≡◌, ℕ, ◌+◌, ◌-◌, ◌≤◌, zero, suc, Bool, true, false, IsTrue, if◌then◌else◌, refl, List, [], ◌++◌, ◌∷◌, map, filter, length, take, drop, Option, Some, None, option_map, sym, ◌∙◌, ap, subst, arith, inl, inr, ⊎_elim}
use Rattle.std.specs.List.{count_by, slice_get}
use Rattle.std.proofs.Math.Seq.{take-length}
use Rattle.std.proofs.lemmas.Bool.{cases_Bool}
use Rattle.std.proofs.lemmas.List.{take_all, length-map, length-drop}
use Rattle.std.proofs.lemmas.List.Elements.{All-nil, All-append}
use Rattle.block_list.specs.declared.status.Status.{Status}
use Rattle.block_list.proofs.Places.{slice_get-append_right}
use Rattle.mapfile_text.specs.declared.state.MapState.{MapState}
use Rattle.crash_site.specs.Files.{File, bytes_of, file_named}
use Rattle.crash_site.specs.Calls.{Call, Entry, Done as Returned, image_open}
use Rattle.crash_site.specs.Folder.{Folder, after}
use Rattle.crash_site.specs.SiteState.{files_in}
use Rattle.crash_site.proofs.LawLemmas.{after-append}
use Rattle.faulty_source.specs.Journal.{Reading}
use Rattle.mapfile_save.specs.MapNames.{names_of}
use Rattle.mapfile_save.specs.Loading.{BeginsLoad, barrier_calls}
use Rattle.rescue_rules.specs.Setting.{Setting, IsSensible}
use Rattle.rescue_rules.specs.Start.{Stands}
use Rattle.rescue_rules.specs.Held.{Held}
use Rattle.rescue_rules.specs.Machine.{Machine}
use Rattle.rescue_rules.specs.Step.{Event}
use Rattle.rescue_rules.specs.Moves.{moves, state_after, has_ended, IsRun}
use Rattle.rescue_rules.specs.Snapshots.{Snapshot, text_of, snapshot_of, finished_snapshot, last_snapshot, is_due}
use Rattle.rescue_rules.specs.Preparation.{prepared}
use Rattle.rescue_rules.specs.Beginning.{goes_on_from, shown_at_first}
use Rattle.rescue_rules.specs.MachineLaws.{IsInOrder}
use Rattle.rescue_rules.specs.Events.{began_at, reads_of}
use Rattle.rescue_rules.specs.RunCalls.{output_after, run_calls, end_calls}
use Rattle.rescue_rules.proofs.HoldLemmas.{run_holds}
use Rattle.rescue_rules.proofs.MapfileLemmas.{opening_is, mapfile_is}
use Rattle.rescue_rules.proofs.ReadyLemmas.{order_begins}
use Rattle.rescue_rules.specs.declared.stop.Stop.{Stop}
use Rattle.rescue_rules.specs.declared.stop.Stop.TheVariants.{SourceLost as InputLost, Site, LimitMet as Limited, NoMemory as NoRoom}
use Rattle.rescue_rules.specs.declared.stop.RunEnd.{RunEnd}
use Rattle.rescue_rules.specs.Work.{Gain, begins, events_in, opening_calls, mapfile_in, IsLoadOf, AreMapReads, EndsBy, end_of, Ends, IsSaved as RunSaved, IsUnsaved, IsBroken}
use Rattle.rescue_rules.specs.StopsBy.{KeepsOver, StopsBy, IsKept, is_publish, published, IsSave, saves_of}
use Rattle.rescue_rules.specs.Stops.{has_barrier, is_settle, returned, files_before, files_after}
use Rattle.task_files.specs.declared.ending.Ending.{Ending}
use Rattle.task_files.specs.declared.ending.Ending.TheVariants.{Done, SameName, SourceLost, SiteFault, NoMemory, LimitMet}
use Rattle.ddrescue_words.specs.Command.{Command, Rescue}
use Rattle.ddrescue_words.specs.Asking.{Asks}
use Rattle.option_words.specs.Words.{command_line}
use Rattle.rescue_rules.proofs.GoesLemmas.{timed}
use Rattle.task_files.specs.Names.{program_name}
use Rattle.task_files.specs.Asked.{Maps, setting_of}
use Rattle.ddrescue_cli.proofs.AskedLemmas.{sensible_to}
use Rattle.ddrescue_cli.specs.Tasks.{with_did}
use Rattle.ddrescue_cli.specs.Told.{Told, calls_before}
use Rattle.ddrescue_cli.specs.ToldParts.{files_of, asked_of}
use Rattle.program_promise.specs.Work.{Deeds, Works, with_calls, with_opens}
use Rattle.task_files.specs.Maps.{Found, found_in, mapfile_of}
use Rattle.task_files.specs.Findings.{Findings}
use Rattle.task_files.specs.Work.{answer_of, Rescues, RunsOver, rescue_faults, rescue_rows, worked_rows, barrier_of}
use Rattle.ddrescue_cli.specs.Ddrescue.{TaskDone, Ddrescue}
use Rattle.ddrescue_laws.specs.Laws.{outside_by, setting_promised, done_by, HoldsAtEnd, LeavesRescued, DoneIsSaved, machine_reached}
use Rattle.run_laws.proofs.EndingLemmas.{run_ends_well}
use Rattle.ddrescue_laws.proofs.OutputLemmas.{holds_whole}
use Rattle.ddrescue_cli.proofs.GoesLemmas.{setting_by, opened, settled}
use Rattle.ddrescue_laws.proofs.CountLemmas.{dues, run_entries, settles_once_more, publishes_each}
use Rattle.program_promise.proofs.FrontLemmas.{IsMapRead, load_reads, reads_stand, made_both}
use Rattle.ddrescue_laws.proofs.ReadLemmas.{settles_after, publishes_after, barrier_after}
use Rattle.rescue_rules.proofs.BarrierLemmas.{opened_bytes}

-- the files as they read after all calls that a record gained
reads_after : (t : Told) (gained : List Entry) → t.after.site.start ≡ t.before.site.start
    → t.after.site.calls ≡ t.before.site.calls ++ gained
    → files_after (calls_before t) (take (length gained) gained) ≡ files_in t.after.site
reads_after t gained started grew =
    ap (files_after (calls_before t)) (take-length gained)
    ∙ ap (λ (calls : List Entry). (after t.before.site.start calls).files) (sym grew)
    ∙ ap (λ (start : Folder). (after start t.after.site.calls).files) (sym started)

-- what a run keeps at its end of the files as they read, over the output as it read before
abbrev pub KeepsAtEnd : (List Status → Option MapState → List Snapshot)
    → (List ℕ → List Status → Option MapState → ℕ → List Status → List ℕ → Type 0) → (makes : Bool) → Told → Setting
    → List Entry → Type 0
KeepsAtEnd saves promise makes t s calls =
    (over : KeepsOver saves promise makes (calls_before t) s calls (length calls) (files_in t.after.site))
    × (over.was.bytes ≡ bytes_of (files_of t s.outfile))

pub kept_at_end : (saves : List Status → Option MapState → List Snapshot)
    (promise : List ℕ → List Status → Option MapState → ℕ → List Status → List ℕ → Type 0) (makes : Bool) (t : Told)
    (s : Setting) (calls : List Entry) → t.after.site.start ≡ t.before.site.start
    → t.after.site.calls ≡ t.before.site.calls ++ calls → has_barrier (take (length calls) calls) ≡ true
    → StopsBy saves promise makes (calls_before t) s calls → KeepsAtEnd saves promise makes t s calls
kept_at_end saves promise makes t s calls started grew is stops =
    let o = stops.reads (length calls) (omega arith) is in
    subst (λ (files : List ℕ → Option File).
    (over : KeepsOver saves promise makes (calls_before t) s calls (length calls) files)
    × (over.was.bytes ≡ bytes_of (files_of t s.outfile)))
    (reads_after t calls started grew)
    (o.0, ap (λ (f : File). f.bytes) o.1 ∙ opened_bytes (files_of t s.outfile))

pub holds_at_end : HoldsAtEnd
holds_at_end t c began state d asks tells on is stands =
    let p : TaskDone (Rescue c) t = d.does.asked_for (Rescue c) asks in
    let s : Setting = setting_promised d asks in
    let g : Gain = done_by d asks in
    let k = kept_at_end (λ began state. saves_of s began state g)
    (λ old began state n map image. Held s g.reads old map image)
    true t s g.calls (d.does.keeps.site.start tells) (p.agrees.agrees.calls tells)
    (ap has_barrier (take-length g.calls) ∙ is) (p.leaves.stops tells on) in
    subst (λ (bytes : List ℕ). IsKept (calls_before t) s g bytes began state (length g.calls)
    (files_in t.after.site)) k.1
    (k.0.kept began state stands)

-- a run that ended with a save
pub record SavedRun (s : Setting) (m : Machine) (events : List Event) (calls : List Entry) : Type 0 where
  pub over : has_ended s (state_after s m events) ≡ true
  pub all : calls ≡ map Returned (run_calls s m events ++ end_calls s m events)

-- only a run that is over is done
pub answer_done : (end : RunEnd) (stop : Option Stop) → Done ≡ answer_of end → end ≡ end_of stop → stop ≡ None
answer_done end None is same = refl
answer_done end (Some InputLost) is same = absurd (let no : Done ≡ SourceLost = is ∙ ap answer_of same in cc)
answer_done end (Some (Site call)) is same = absurd (let no : Done ≡ SiteFault call None = is ∙ ap answer_of same in cc)
answer_done end (Some (Limited limit)) is same = absurd (let no : Done ≡ LimitMet limit = is ∙ ap answer_of same in cc)
answer_done end (Some NoRoom) is same = absurd (let no : Done ≡ NoMemory = is ∙ ap answer_of same in cc)

pub saved_ends : (s : Setting) (m : Machine) (events : List Event) (calls : List Entry) (end : RunEnd)
    → Done ≡ answer_of end → Ends s m events calls end → SavedRun s m events calls
saved_ends s m events calls end is (RunSaved stop ends same all) =
    let P : Option Stop → Type 0 = λ o. EndsBy o s (state_after s m events) in
    record { over = subst P (answer_done end stop is same) ends; all = all }
saved_ends s m events calls end is (IsUnsaved stop call ends same broke) =
    absurd (let no : Done ≡ SiteFault call stop = is ∙ ap answer_of same in cc)
saved_ends s m events calls end is (IsBroken before last call split same broke) =
    absurd (let no : Done ≡ SiteFault call None = is ∙ ap answer_of same in cc)

-- the calls of a run, and of its end
abbrev last_calls : Setting → Machine → List Event → List Entry
last_calls s m es = map Returned (run_calls s m es ++ end_calls s m es)

-- a run over a map, after a load
record DoneOver (s : Setting) (statuses : List Status) (state : Option MapState) (g : Gain) : Type 0 where
  run : IsRun s (begins s statuses state g) (events_in g)
  reads : reads_of (events_in g) ≡ g.reads
  saved : SavedRun s (begins s statuses state g) (events_in g) g.calls

done_over : (s : Setting) (statuses : List Status) (state : Option MapState) (lines : List (List ℕ)) (e : Ending)
    (g : Gain) → Done ≡ e → RunsOver s statuses state lines e g → DoneOver s statuses state g
done_over s statuses state lines e g is (inl unbegun) = absurd (let no : Done ≡ NoMemory = is ∙ unbegun.answer in cc)
done_over s statuses state lines e g is (inr ran) = record {
  run = ran.runs.run;
  reads = timed g.reads (drop 1 g.times) (omega (arith, ran.runs.times, length-drop 1 g.times));
  saved = saved_ends s (begins s statuses state g) (events_in g) g.calls ran.end (is ∙ ran.answer)
      ran.runs.ends;
}

-- what a rescue that is done did
record DoneRun (s : Setting) (files : List ℕ → Option File) (g : Gain) : Type 0 where
  load : List Call
  loads : IsLoadOf s files load
  statuses : List Status
  state : Option MapState
  stands : Stands (mapfile_in s files) s.end statuses state
  run : IsRun s (begins s statuses state g) (events_in g)
  reads : reads_of (events_in g) ≡ g.reads
  over : has_ended s (state_after s (begins s statuses state g) (events_in g)) ≡ true
  calls : g.calls ≡ map Returned (opening_calls s ++ load) ++ last_calls s (begins s statuses state g) (events_in g)

opened_alone : (s : Setting) → s.has_mapfile ≡ false → opening_calls s ≡ image_open s.outfile true ∷ []
opened_alone s off = ap (λ (b : Bool). image_open s.outfile true ∷ (if b then barrier_calls s.names else [])) off

-- what a command's mapfile is to its setting
load_if : (c : Command) (mapfile : Option (List ℕ)) (line : List ℕ) (end : ℕ) (maps : Maps) (files : List ℕ → Option File)
    (load : List Call) → IsLoadIf mapfile (file_named mapfile files) load
    → IsLoadOf (setting_by c (option_map names_of mapfile) line end maps) files load
load_if c None line end maps files load is = record { all = λ on. absurd (cc); none = λ off. is }
load_if c (Some n) line end maps files load is = record { all = λ on. is; none = λ off. absurd (cc) }

opening_by : (c : Command) (mapfile : Option (List ℕ)) (line : List ℕ) (end : ℕ) (maps : Maps)
    → opening_calls (setting_by c (option_map names_of mapfile) line end maps)
    ≡ image_open c.outfile true ∷ barrier_of mapfile
opening_by c None line end maps = refl
opening_by c (Some n) line end maps = refl

pub file_in : (c : Command) (mapfile : Option (List ℕ)) (line : List ℕ) (end : ℕ) (maps : Maps) (files : List ℕ → Option File)
    → file_named mapfile files ≡ mapfile_in (setting_by c (option_map names_of mapfile) line end maps) files
file_in c None line end maps files = refl
file_in c (Some n) line end maps files = refl

-- what follows the opening of the input
done_run : (c : Command) (line : List ℕ) (end : ℕ) (maps : Maps) (files : List ℕ → Option File)
    (lines : List (List ℕ)) (e : Ending) (d : Deeds) (rest more run : List Entry) (load : List Call) → Done ≡ e
    → d.gain.calls ≡ opened (setting_of c line end maps) ++ rest → rest ≡ map Returned (barrier_of c.mapfile) ++ more
    → more ≡ map Returned load ++ run → IsLoadIf c.mapfile (mapfile_of c files) load
    → Rescues (setting_of c line end maps) (mapfile_of c files) lines e (with_calls d run)
    → DoneRun (setting_of c line end maps) files d.gain
done_run c line end maps files lines e d rest more run load is grew grew' all loaded
    (none, (statuses, state, stands, runs)) =
    let s : Setting = setting_of c line end maps in
    let barrier : List Call = barrier_of c.mapfile in
    let over : DoneOver s statuses state (record d.gain { calls = run }) =
    done_over s statuses state lines e (record d.gain { calls = run }) is runs in
    let last : List Entry = last_calls s (begins s statuses state d.gain) (events_in d.gain) in
    record {
      load = load;
      loads = load_if c c.mapfile line end maps files load loaded;
      statuses = statuses;
      state = state;
      stands = subst (λ (f : Option File). Stands f end statuses state) (file_in c c.mapfile line end maps files) stands;
      run = over.run;
      reads = over.reads;
      over = over.saved.over;
      calls = grew
          ∙ ap (λ (r : List Entry). opened s ++ r)
          (grew' ∙ ap (λ (r : List Entry). map Returned barrier ++ r)
          (all ∙ ap (λ (r : List Entry). map Returned load ++ r) over.saved.all) ∙ made_both barrier load last)
          ∙ ap (λ (front : List Call). map Returned (front ++ load) ++ last)
          (sym (opening_by c c.mapfile line end maps));
    }

-- what a rescue that is done did after its reads of such maps
record DoneWork (s : Setting) (files : List ℕ → Option File) (g : Gain) : Type 0 where
  maps : List Call
  are : AreMapReads maps
  rest : List Entry
  grew : g.calls ≡ map Returned maps ++ rest
  run : DoneRun s files (record g { calls = rest })

pub if_reads : (name : Option (List ℕ)) (file : Option File) (load : List Call) → IsLoadIf name file load → AreMapReads load
if_reads None file load is = subst (λ (l : List Call). AreMapReads l) (sym is) (All-nil IsMapRead)
if_reads (Some name) file load is = load_reads name file load is.begins

done_after : (c : Command) (line : List ℕ) (end : ℕ) (maps : Maps) (files : List ℕ → Option File)
    (lines : List (List ℕ)) (e : Ending) (d : Deeds) → Done ≡ e
    → Passed (worked_rows c (found_in c files) end) (Rescues (setting_of c line end maps) (mapfile_of c files) lines) e d
    → DoneWork (setting_of c line end maps) files d.gain
done_after c line end maps files lines e d is (
  domain,
  tests,
  domain_is,
  grew,
  (test, rest, test_is, grew', (os, (back, out, (more, settled_, (load, run, loaded, all, ran))))),
) = record {
  maps = domain ++ test;
  are = All-append IsMapRead domain test (if_reads c.domain_map (file_named c.domain_map files) domain domain_is)
      (if_reads c.test_map (file_named c.test_map files) test test_is);
  rest = rest;
  grew = grew ∙ ap (λ (r : List Entry). map Returned domain ++ r) grew' ∙ made_both domain test rest;
  run = done_run c line end maps files lines e (with_opens (with_calls d rest) os) back more run load is out settled_ all loaded
      ran;
}

done_works : (c : Command) (line : List ℕ) (end : ℕ) (maps : Maps) (files : List ℕ → Option File)
    (lines : List (List ℕ)) (e : Ending) (d : Deeds) → Done ≡ e
    → Works rescue_faults (rescue_rows c (found_in c files) end)
    (Rescues (setting_of c line end maps) (mapfile_of c files) lines) e d
    → DoneWork (setting_of c line end maps) files d.gain
done_works c line end maps files lines e d is (inl (starved, none)) =
    absurd (let no : Done ≡ NoMemory = is ∙ starved in cc)
done_works c line end maps files lines e d is (inr (inl (refused, none))) =
    absurd (let no : Done ≡ SameName refused.0 refused.1 = is ∙ refused.3 in cc)
done_works c line end maps files lines e d is (inr (inr (passes, w))) =
    let found : Found = found_in c files in
    let run : Ending → Deeds → Type 0 = Rescues (setting_of c line end maps) (mapfile_of c files) lines in
    done_after c line end maps files lines e d is
    (passed rescue_faults (worked_rows c found end) run e d (λ stops. undone c found end e stops (sym is)) w)

-- the last of several saves
pub save_last : (old : Option File) (began : List Status) (line : List ℕ) (saves : List Snapshot) (last : Snapshot)
    (number : ℕ) (found : Option File) (statuses : List Status)
    → number ≡ length saves + 1 → IsSave old began line (saves ++ last ∷ []) number found statuses
    → (statuses ≡ last.map) × (found ≡ Some (record { bytes = text_of line last; regular = true }))
save_last old began line saves last zero found statuses is save = absurd (omega (arith, is))
save_last old began line saves last (suc n) found statuses is (p, at, map_is, found_is) =
    let here : n ≡ length saves = omega (arith, is) in
    let P : ℕ → Type 0 = λ k. slice_get (saves ++ last ∷ []) k ≡ Some p in
    let none : length saves - length saves ≡ 0 = omega arith in
    let some : Some last ≡ Some p =
    sym (slice_get-append_right saves (last ∷ []) (length saves) (omega arith) ∙ ap (slice_get (last ∷ [])) none)
    ∙ subst P here at in
    let same : p ≡ last = cc in
    let F : Snapshot → Option File = λ q. Some (record { bytes = text_of line q; regular = true }) in
    (map_is ∙ ap (λ (q : Snapshot). q.map) same, found_is ∙ ap F same)

-- after all calls of a rescue that is done, its last save is the one that is found
pub number_last : (calls : List Entry) (number k : ℕ) → count_by is_settle calls ≡ 1 + k → count_by is_publish calls ≡ k
    → returned (take (length calls) calls) ≤ number → number ≤ published (take (length calls + 1) calls) → number ≡ k
number_last calls number k settled published_ older newer =
    let whole : take (length calls) calls ≡ calls = take-length calls in
    let whole' : take (length calls + 1) calls ≡ calls = take_all (length calls + 1) calls (omega arith) in
    let less : 1 + k - 1 ≡ k = omega arith in
    let lower : k ≤ number =
    subst (λ (m : ℕ). m ≤ number) (ap returned whole ∙ ap (λ (m : ℕ). m - 1) settled ∙ less) older in
    let upper : number ≤ k = subst (λ (m : ℕ). number ≤ m) (ap published whole' ∙ published_) newer in
    omega (arith, lower, upper)

-- what a run saves last where it is over
pub last_finished : (s : Setting) (m : Machine) → has_ended s m ≡ true → last_snapshot s m ≡ finished_snapshot m
last_finished s m over = ap (λ (b : Bool). if b then finished_snapshot m else snapshot_of m) over

-- what is there after all calls: the mapfile, and the output
record Left (t : Told) (s : Setting) (g : Gain) (began : List Status) (state : Option MapState) : Type 0 where
  mapfile : files_in t.after.site s.names.map
      ≡ Some (record { bytes = text_of s.line (finished_snapshot (machine_reached s g began state)); regular = true })
  held : Held s g.reads (bytes_of (files_of t s.outfile)) (machine_reached s g began state).map
      (bytes_of (files_in t.after.site s.outfile))

-- all calls of a rescue with a mapfile that is done
record CallsWith (s : Setting) (g : Gain) (load : List Call) (m : Machine) (events : List Event) : Type 0 where
  maps : List Call
  are : AreMapReads maps
  calls : g.calls ≡ map Returned maps ++ (settled s ++ run_entries s load m events)

saved_by : (t : Told) (s : Setting) (g : Gain) (r : DoneWork s (files_of t) g) → s.has_mapfile ≡ true
    → CallsWith s g r.run.load (begins s r.run.statuses r.run.state g) (events_in g)
    → IsKept (calls_before t) s g (bytes_of (files_of t s.outfile)) r.run.statuses r.run.state (length g.calls)
    (files_in t.after.site)
    → Left t s g r.run.statuses r.run.state
saved_by t s g r on w k =
    let m : Machine = begins s r.run.statuses r.run.state g in
    let es : List Event = events_in g in
    let due : List Snapshot = map (λ v. snapshot_of v.after) (filter (is_due s) (moves s m es)) in
    let n : ℕ = dues s (moves s m es) in
    let file : Option File = files_of t s.names.map in
    let rest : List Entry = settled s ++ run_entries s r.run.load m es in
    let loads : BeginsLoad s.names.map file r.run.load = (r.run.loads.all on).begins in
    let more : count_by is_settle g.calls ≡ 1 + (n + 1) =
    ap (count_by is_settle) w.calls ∙ settles_after w.maps rest w.are
    ∙ settles_once_more s file r.run.load m es on loads in
    let each : count_by is_publish g.calls ≡ n + 1 =
    ap (count_by is_publish) w.calls ∙ publishes_after w.maps rest w.are
    ∙ publishes_each s file r.run.load m es on loads in
    let all : k.number ≡ n + 1 = number_last g.calls k.number (n + 1) more each k.no_older k.no_newer in
    let last : k.number ≡ length due + 1 =
    all ∙ ap (λ (i : ℕ). i + 1) (sym (length-map (filter (is_due s) (moves s m es)) (λ v. snapshot_of v.after))) in
    let P : Snapshot → Type 0 = λ p. (k.statuses ≡ p.map)
    × (files_in t.after.site s.names.map ≡ Some (record { bytes = text_of s.line p; regular = true })) in
    let saved : P (finished_snapshot (state_after s m es)) = subst P (last_finished s (state_after s m es) r.run.over)
    (save_last (files_before (calls_before t) s.names.map) r.run.statuses s.line due
    (last_snapshot s (state_after s m es)) k.number (files_in t.after.site s.names.map) k.statuses last k.is_save) in
    let Q : List Status → Type 0 =
    λ x. Held s g.reads (bytes_of (files_of t s.outfile)) x (bytes_of (files_in t.after.site s.outfile)) in
    record { mapfile = saved.1; held = subst Q saved.0 k.held }

calls_with : (s : Setting) (files : List ℕ → Option File) (g : Gain) (w : DoneWork s files g) → s.has_mapfile ≡ true
    → CallsWith s g w.run.load (begins s w.run.statuses w.run.state g) (events_in g)
calls_with s files g w on =
    let last : List Entry = last_calls s (begins s w.run.statuses w.run.state g) (events_in g) in
    let F : List Call → List Entry = λ front. map Returned (front ++ w.run.load) ++ last in
    record {
      maps = w.maps;
      are = w.are;
      calls = w.grew ∙ ap (λ (r : List Entry). map Returned w.maps ++ r) (w.run.calls ∙ ap F (opening_is s on));
    }

left_with : (t : Told) (c : Command) (d : Ddrescue t) (asks : Asks t.words c) → IsTrue t.before.site.tells
    → (r : DoneWork (setting_promised d asks) (files_of t) (done_by d asks)) → (setting_promised d asks).has_mapfile ≡ true
    → Left t (setting_promised d asks) (done_by d asks) r.run.statuses r.run.state
left_with t c d asks tells r on =
    let s : Setting = setting_promised d asks in
    let g : Gain = done_by d asks in
    let w : CallsWith s g r.run.load (begins s r.run.statuses r.run.state g) (events_in g) =
    calls_with s (files_of t) g r on in
    let rest : List Entry =
    settled s ++ run_entries s r.run.load (begins s r.run.statuses r.run.state g) (events_in g) in
    let barrier : has_barrier g.calls ≡ true = ap has_barrier w.calls ∙ barrier_after w.maps rest w.are in
    let stands : Stands (files_of t s.names.map) s.end r.run.statuses r.run.state =
    subst (λ (o : Option File). Stands o s.end r.run.statuses r.run.state) (mapfile_is s (files_of t) on)
    r.run.stands in
    saved_by t s g r on w (holds_at_end t c r.run.statuses r.run.state d asks tells on barrier stands)

-- what words ask for is sensible
asked_sensible : (t : Told) (c : Command) (d : Ddrescue t) (asks : Asks t.words c) → IsSensible (setting_promised d asks)
asked_sensible t c d asks =
    let o : Findings = outside_by d asks in
    sensible_to c t.words (command_line program_name t.words) o.end o.maps asks

-- a rescue's run begins in order
begun_order : (s : Setting) (statuses : List Status) (state : Option MapState) (g : Gain)
    → IsInOrder s (begins s statuses state g)
begun_order s statuses state g =
    order_begins s (prepared s.domain s.try_again s.retrim statuses) (goes_on_from s.try_again state) (shown_at_first state)
    (began_at g.times)

-- all calls of a rescue without a mapfile that is done, after its reads of maps
calls_without : (s : Setting) (files : List ℕ → Option File) (g : Gain) → s.has_mapfile ≡ false
    → (r : DoneRun s files g)
    → g.calls ≡ Returned (image_open s.outfile true) ∷ last_calls s (begins s r.statuses r.state g) (events_in g)
calls_without s files g off r =
    let last : List Entry = last_calls s (begins s r.statuses r.state g) (events_in g) in
    r.calls ∙ ap (λ (front : List Call). map Returned (front ++ r.load) ++ last) (opened_alone s off)
    ∙ ap (λ (load : List Call). map Returned (image_open s.outfile true ∷ load) ++ last) (r.loads.none off)

-- without a mapfile all writes of the run stand in the output
held_without : (t : Told) (c : Command) (d : Ddrescue t) (asks : Asks t.words c) → IsTrue t.before.site.tells
    → (w : DoneWork (setting_promised d asks) (files_of t) (done_by d asks)) → (setting_promised d asks).has_mapfile ≡ false
    → Held (setting_promised d asks) (done_by d asks).reads (bytes_of (files_of t c.outfile))
    (machine_reached (setting_promised d asks) (done_by d asks) w.run.statuses w.run.state).map (bytes_of (files_in t.after.site c.outfile))
held_without t c d asks tells w off =
    let p : TaskDone (Rescue c) t = d.does.asked_for (Rescue c) asks in
    let s : Setting = setting_promised d asks in
    let g : Gain = done_by d asks in
    let m : Machine = begins s w.run.statuses w.run.state g in
    let es : List Event = events_in g in
    let start : Folder = after t.before.site.start t.before.site.calls in
    let old : List ℕ = bytes_of (start.files c.outfile) in
    let whole : List Entry = Returned (image_open c.outfile true) ∷ last_calls s m es in
    let calls : g.calls ≡ map Returned w.maps ++ whole =
    w.grew
    ∙ ap (λ (r : List Entry). map Returned w.maps ++ r)
    (calls_without s (files_of t) (record g { calls = w.rest }) off w.run) in
    let now : after t.after.site.start t.after.site.calls ≡ after start whole =
    ap (λ (from : Folder). after from t.after.site.calls) (d.does.keeps.site.start tells)
    ∙ ap (after t.before.site.start) (p.agrees.agrees.calls tells)
    ∙ after-append t.before.site.start t.before.site.calls g.calls ∙ ap (after start) calls
    ∙ after-append start (map Returned w.maps) whole
    ∙ ap (λ (from : Folder). after from whole) (reads_stand w.maps start w.are) in
    let image : bytes_of (files_in t.after.site c.outfile) ≡ output_after s old es =
    ap (λ (f : Folder). bytes_of (f.files c.outfile)) now ∙ (holds_whole s m es start off).holds in
    let held : Held s (reads_of es) old (state_after s m es).map (output_after s old es) =
    run_holds s m es old (asked_sensible t c d asks) (begun_order s w.run.statuses w.run.state g) w.run.run in
    subst (λ (bytes : List ℕ). Held s g.reads old (state_after s m es).map bytes) (sym image)
    (subst (λ (reads : List Reading). Held s reads old (state_after s m es).map (output_after s old es)) w.run.reads
    held)

finished_by : (t : Told) (c : Command) (d : Ddrescue t) (asks : Asks t.words c) → IsTrue t.before.site.tells
    → DoneWork (setting_promised d asks) (files_of t) (done_by d asks) → LeavesRescued t (setting_promised d asks) (done_by d asks)
finished_by t c d asks tells w =
    let s : Setting = setting_promised d asks in
    record {
      statuses = w.run.statuses;
      state = w.run.state;
      stands = w.run.stands;
      run = w.run.run;
      over = w.run.over;
      well = run_ends_well s (prepared s.domain s.try_again s.retrim w.run.statuses) (goes_on_from s.try_again w.run.state)
          (shown_at_first w.run.state) (began_at (done_by d asks).times) (events_in (done_by d asks))
          (asked_sensible t c d asks) w.run.run w.run.over;
      mapfile = λ on. (left_with t c d asks tells w on).mapfile;
      held = ⊎_elim (λ (on : s.has_mapfile ≡ true). (left_with t c d asks tells w on).held)
          (λ (off : s.has_mapfile ≡ false). held_without t c d asks tells w off) (cases_Bool s.has_mapfile);
    }

pub done_is_saved : DoneIsSaved
done_is_saved t c d asks tells is =
    let p : TaskDone (Rescue c) t = d.does.asked_for (Rescue c) asks in
    let o : Findings = with_did p.outside p.did in
    finished_by t c d asks tells
    (done_works c (command_line program_name t.words) o.end o.maps (files_of t) o.lines t.answer o.did (sym is)
    (subst
    (λ (f : Found). Works rescue_faults (rescue_rows c f o.end) (Rescues (asked_of c t o) f.mapfile o.lines) t.answer o.did)
    (p.agrees.agrees.found tells) p.work))
