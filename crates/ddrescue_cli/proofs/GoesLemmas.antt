-- The work of a rescue goes as it should.
use Rattle.std.proofs.Common.{◌≡◌, ℕ, ◌+◌, ◌≤◌, Bool, true, false, ◌⊎◌, List, [], ◌∷◌, ◌++◌, map, length, take, Option, Some, None, option_map, refl, sym, ap, ◌∙◌, inl, inr, subst, arith, append-nil}
use Rattle.std.proofs.lemmas.List.Elements.{All-nil, All-append}
use Rattle.block_list.specs.declared.status.Status.{Status}
use Rattle.mapfile_text.specs.declared.state.MapState.{MapState}
use Rattle.mapfile_text.specs.declared.read.Mode.{Mode}
use Rattle.crash_site.specs.declared.site.SiteCall.TheVariants.{MapRead}
use Rattle.crash_site.specs.Files.{File, file_named}
use Rattle.crash_site.specs.Calls.{Call, Entry, Done as Returned, image_open, image_sync, map_settle}
use Rattle.crash_site.specs.CallsMade.{Lost, BrokeAt}
use Rattle.crash_site.specs.Left.{MayBeLeft}
use Rattle.mapfile_save.specs.MapNames.{MapNames, names_of}
use Rattle.mapfile_save.specs.Loading.{BeginsLoad, IsLoad, barrier_calls}
use Rattle.rescue_rules.specs.declared.stop.RunEnd.{RunEnd}
use Rattle.rescue_rules.specs.Setting.{Setting}
use Rattle.rescue_rules.specs.Start.{Stands}
use Rattle.rescue_rules.specs.Work.{Gain, IsNothing, Runs, mapfile_in, GoesOn, InOpening, InLoad, InRun, AreMapReads, Goes, InMaps, AfterMaps}
use Rattle.rescue_rules.specs.Snapshots.{Snapshot}
use Rattle.rescue_rules.specs.StopsBy.{StopsBy, RescueStopsBy, saves_of}
use Rattle.rescue_rules.specs.Stops.{LeftBy, Before, has_barrier}
use Rattle.rescue_rules.specs.Held.{Held}
use Rattle.task_files.specs.declared.ending.Ending.{Ending}
use Rattle.task_files.specs.declared.ending.Which.{Which}
use Rattle.task_files.specs.declared.ending.Which.TheVariants.{DomainMap, TestMap}
use Rattle.ddrescue_words.specs.declared.options.Options.{Options}
use Rattle.ddrescue_words.specs.Command.{Command}
use Rattle.mapfile_resume.specs.Named.{map_mode}
use Rattle.task_files.specs.Refusals.{MapfileRefused, PlacesRefused}
use Rattle.program_promise.specs.Work.{Deeds, WorkStep, Look, Read, Works, with_calls, with_opens}
use Rattle.task_files.specs.Asked.{Maps, setting_asked, setting_of}
use Rattle.task_files.specs.Maps.{found_in, mapfile_of}
use Rattle.task_files.specs.Work.{Rescues, RunsOver, rescue_faults, map_rows, load_rows, opened_rows, worked_rows}
use Rattle.task_files.specs.Steps.{IsOnlyMaps}
use Rattle.rescue_rules.proofs.MapfileLemmas.{settling_calls, opening_is}
use Rattle.rescue_rules.proofs.CutLemmas.{Cut, cut_all}
use Rattle.rescue_rules.proofs.GoesLemmas.{broke_cut}
use Rattle.rescue_rules.proofs.MapReadLemmas.{cut_reads_by}
use Rattle.program_promise.proofs.GainLemmas.{lost_after, broke_after}
use Rattle.program_promise.proofs.FrontLemmas.{IsMapRead, load_reads, broke_in_both, made_both}

-- what a command asks for with these names of a mapfile and its draft, if there is one
abbrev pub setting_by : Command → Option MapNames → (line : List ℕ) → (end : ℕ) → Maps → Setting
setting_by c n l end maps = setting_asked c.infile c.outfile n l c.options end maps

-- the work after the maps that options name, among files
abbrev pub WorksOpened : Command → Setting → (List ℕ → Option File) → (lines : List (List ℕ)) → Ending → Deeds → Type 0
WorksOpened c s files lines =
    Works rescue_faults (opened_rows c (found_in c files) s.end) (Rescues s (mapfile_of c files) lines)

-- the first call of a rescue, and the three of its opening
abbrev pub opened : Setting → List Entry
opened s = Returned (image_open s.outfile true) ∷ []

abbrev pub settled : Setting → List Entry
settled s = Returned (image_open s.outfile true) ∷ Returned (map_settle s.names.map) ∷ Returned image_sync ∷ []

pub settled_more : (s : Setting) (calls rest more : List Entry) → calls ≡ opened s ++ rest → rest ≡ map Returned (barrier_calls s.names) ++ more
    → calls ≡ settled s ++ more
settled_more s calls rest more grew grew' = grew ∙ ap (λ r. opened s ++ r) grew'

lost_settled : (s : Setting) (calls rest : List Entry) → calls ≡ opened s ++ rest → Lost (map_settle s.names.map) [] rest
    → Lost (map_settle s.names.map) (opened s) calls
lost_settled s calls rest grew lost =
    let P : List Entry → Type 0 = λ r. Lost (map_settle s.names.map) (opened s) r in
    subst P (sym grew) (lost_after (map_settle s.names.map) (opened s) [] rest lost)

lost_synced : (s : Setting) (calls rest : List Entry) → calls ≡ opened s ++ rest → Lost image_sync (Returned (map_settle s.names.map) ∷ []) rest
    → Lost image_sync (opened s ++ Returned (map_settle s.names.map) ∷ []) calls
lost_synced s calls rest grew lost =
    let P : List Entry → Type 0 = λ r. Lost image_sync (opened s ++ Returned (map_settle s.names.map) ∷ []) r in
    subst P (sym grew) (lost_after image_sync (opened s) (Returned (map_settle s.names.map) ∷ []) rest lost)

broke_settled : (s : Setting) (load : List Call) (calls more : List Entry) → calls ≡ settled s ++ more → BrokeAt MapRead load [] more
    → BrokeAt MapRead (settling_calls s ++ load) [] calls
broke_settled s load calls more grew broke =
    let P : List Entry → Type 0 = λ r. BrokeAt MapRead load (settled s) r in
    inr (inr (inr (subst P (sym grew) (broke_after MapRead load (settled s) [] more broke))))

-- the calls of a rescue that read its mapfile, and made no other after it
alone_after : (s : Setting) (load : List Call) (calls run : List Entry) → calls ≡ map Returned (settling_calls s ++ load) ++ run
    → run ≡ [] → calls ≡ map Returned (settling_calls s ++ load)
alone_after s load calls run grew none =
    grew ∙ ap (λ r. map Returned (settling_calls s ++ load) ++ r) none ∙ append-nil (map Returned (settling_calls s ++ load))

-- the ways of a rescue with a mapfile
opening_goes : (s : Setting) (files : List ℕ → Option File) (g : Gain) (front back : List Call) → s.has_mapfile ≡ true
    → front ++ back ≡ settling_calls s → g.reads ≡ []
    → (g.calls ≡ map Returned front) ⊎ ((call : Call) × (rest : List Call) × (back ≡ call ∷ rest) × Lost call (map Returned front) g.calls)
    → GoesOn s files g
opening_goes s files g front back on is none h = InOpening front back (is ∙ sym (opening_is s on)) none h

load_goes : (s : Setting) (files : List ℕ → Option File) (g : Gain) (load : List Call) → s.has_mapfile ≡ true
    → BeginsLoad s.names.map (files s.names.map) load → g.reads ≡ []
    → (g.calls ≡ map Returned (settling_calls s ++ load)) ⊎ BrokeAt MapRead (settling_calls s ++ load) [] g.calls → GoesOn s files g
load_goes s files g load on begins none h =
    InLoad load on begins none
    (subst (λ (l : List Call). (g.calls ≡ map Returned (l ++ load)) ⊎ BrokeAt MapRead (l ++ load) [] g.calls) (sym (opening_is s on)) h)

run_goes : (s : Setting) (files : List ℕ → Option File) (g : Gain) (load : List Call) (statuses : List Status) (state : Option MapState)
    (end : RunEnd) (run : List Entry) → s.has_mapfile ≡ true → IsLoad s.names.map (files s.names.map) load
    → Stands (mapfile_in s files) s.end statuses state → g.calls ≡ map Returned (settling_calls s ++ load) ++ run
    → Runs s statuses state (record g { calls = run }) end → GoesOn s files g
run_goes s files g load statuses state end run on loaded stands grew runs =
    InRun load statuses state end run (record { all = λ _. loaded; none = λ off. absurd (let never : true ≡ false = sym on ∙ off in cc) })
    stands
    (subst (λ (l : List Call). g.calls ≡ map Returned (l ++ load) ++ run) (sym (opening_is s on)) grew) runs

-- a run over the map that was loaded, which may not have begun
over_goes : (s : Setting) (files : List ℕ → Option File) (lines : List (List ℕ)) (e : Ending) (g : Gain) (load : List Call) (statuses : List Status)
    (state : Option MapState) (run : List Entry) → s.has_mapfile ≡ true → IsLoad s.names.map (files s.names.map) load
    → Stands (mapfile_in s files) s.end statuses state → g.calls ≡ map Returned (settling_calls s ++ load) ++ run
    → RunsOver s statuses state lines e (record g { calls = run }) → GoesOn s files g
over_goes s files lines e g load statuses state run on loaded stands grew (inl un) =
    load_goes s files g load on loaded.begins un.reads (inl (grew ∙ ap (λ r. map Returned (settling_calls s ++ load) ++ r) un.calls
    ∙ append-nil (map Returned (settling_calls s ++ load))))
over_goes s files lines e g load statuses state run on loaded stands grew (inr ran) =
    run_goes s files g load statuses state ran.end run on loaded stands grew ran.runs

-- a load after the barrier, and what follows it
loaded_goes : (o : Options) (s : Setting) (files : List ℕ → Option File) (lines : List (List ℕ)) (e : Ending) (d : Deeds)
    (load : List Call) (run : List Entry)
    → s.has_mapfile ≡ true → IsLoad s.names.map (files s.names.map) load → d.gain.calls ≡ map Returned (settling_calls s ++ load) ++ run
    → Works rescue_faults (Look (MapfileRefused (files s.names.map)) ∷ Look (PlacesRefused o s.end) ∷ [])
    (Rescues s (mapfile_in s files) lines) e (with_calls d run)
    → GoesOn s files d.gain
loaded_goes o s files lines e d load run on loaded grew (inl (refused, none)) =
    load_goes s files d.gain load on loaded.begins none.gain.reads (inl (alone_after s load d.gain.calls run grew none.gain.calls))
loaded_goes o s files lines e d load run on loaded grew (inr (accepted, inl (refused, none))) =
    load_goes s files d.gain load on loaded.begins none.gain.reads (inl (alone_after s load d.gain.calls run grew none.gain.calls))
loaded_goes o s files lines e d load run on loaded grew (inr (accepted, inr (placed, (none, (statuses, state, stands, runs))))) =
    over_goes s files lines e d.gain load statuses state run on loaded stands grew runs

read_goes : (o : Options) (s : Setting) (files : List ℕ → Option File) (lines : List (List ℕ)) (e : Ending) (d : Deeds) (rest more : List Entry)
    → s.has_mapfile ≡ true
    → d.gain.calls ≡ opened s ++ rest → rest ≡ map Returned (barrier_calls s.names) ++ more
    → Works rescue_faults (Read (Some s.names.map) (files s.names.map) ∷ Look (MapfileRefused (files s.names.map)) ∷ Look (PlacesRefused o s.end) ∷ [])
    (Rescues s (mapfile_in s files) lines) e (with_calls d more)
    → GoesOn s files d.gain
read_goes o s files lines e d rest more on grew grew' (inl (load, is, begins, broke, only)) =
    load_goes s files d.gain load on begins only.reads (inr (broke_settled s load d.gain.calls more (settled_more s d.gain.calls rest more grew grew') broke))
read_goes o s files lines e d rest more on grew grew' (inr (inl (load, is, begins, all, only))) =
    load_goes s files d.gain load on begins only.reads (inl (settled_more s d.gain.calls rest more grew grew' ∙ ap (λ r. settled s ++ r) all))
read_goes o s files lines e d rest more on grew grew' (inr (inr (load, run, loaded, all, next))) =
    loaded_goes o s files lines e d load run on loaded (settled_more s d.gain.calls rest more grew grew' ∙ ap (λ r. settled s ++ r) all) next

-- what follows the opening of the output
output_goes : (c : Command) (mapfile : Option (List ℕ)) (line : List ℕ) (end : ℕ) (maps : Maps)
    (files : List ℕ → Option File) (lines : List (List ℕ)) (e : Ending) (d : Deeds) (rest : List Entry)
    → (setting_by c (option_map names_of mapfile) line end maps).has_mapfile ≡ true
    → d.gain.calls ≡ opened (setting_by c (option_map names_of mapfile) line end maps) ++ rest
    → Works rescue_faults (load_rows mapfile (file_named mapfile files) ++ Look (PlacesRefused c.options end) ∷ [])
    (Rescues (setting_by c (option_map names_of mapfile) line end maps) (file_named mapfile files) lines) e (with_calls d rest)
    → GoesOn (setting_by c (option_map names_of mapfile) line end maps) files d.gain
output_goes c None line end maps files lines e d rest on grew w = absurd (cc)
output_goes c (Some n) line end maps files lines e d rest on grew (inl (call, is, inl (name, lost), only)) =
    let s : Setting = setting_by c (Some (names_of n)) line end maps in
    opening_goes s files d.gain (image_open s.outfile true ∷ []) (barrier_calls s.names) on refl only.reads
    (inr (map_settle s.names.map, image_sync ∷ [], refl, lost_settled s d.gain.calls rest grew lost))
output_goes c (Some n) line end maps files lines e d rest on grew (inl (call, is, inr (inl (name, lost)), only)) =
    let s : Setting = setting_by c (Some (names_of n)) line end maps in
    opening_goes s files d.gain (image_open s.outfile true ∷ map_settle s.names.map ∷ []) (image_sync ∷ []) on refl only.reads
    (inr (image_sync, [], refl, lost_synced s d.gain.calls rest grew lost))
output_goes c (Some n) line end maps files lines e d rest on grew (inl (call, is, inr (inr broke), only)) = absurd broke
output_goes c (Some n) line end maps files lines e d rest on grew (inr (more, grew', read)) =
    read_goes c.options (setting_by c (Some (names_of n)) line end maps) files lines e d rest more on grew grew' read

goes_on : (c : Command) (line : List ℕ) (end : ℕ) (maps : Maps) (files : List ℕ → Option File)
    (lines : List (List ℕ)) (e : Ending) (d : Deeds) → (setting_of c line end maps).has_mapfile ≡ true
    → WorksOpened c (setting_of c line end maps) files lines e d
    → GoesOn (setting_of c line end maps) files d.gain
goes_on c line end maps files lines e d on (inl (is, opens, none)) =
    let s : Setting = setting_of c line end maps in
    opening_goes s files d.gain [] (settling_calls s) on refl none.reads (inl none.calls)
goes_on c line end maps files lines e d on (inr (os, opens, inl (call, is, inl (name, lost), only))) =
    let s : Setting = setting_of c line end maps in
    opening_goes s files d.gain [] (settling_calls s) on refl only.reads (inr (image_open s.outfile true, barrier_calls s.names, refl, lost))
goes_on c line end maps files lines e d on (inr (os, opens, inl (call, is, inr broke, only))) = absurd broke
goes_on c line end maps files lines e d on (inr (os, opens, inr (rest, grew, inl (refused, none)))) =
    let s : Setting = setting_of c line end maps in
    opening_goes s files d.gain (image_open s.outfile true ∷ []) (barrier_calls s.names) on refl none.gain.reads
    (inl (grew ∙ ap (λ r. opened s ++ r) none.gain.calls))
goes_on c line end maps files lines e d on (inr (os, opens, inr (rest, grew, inr (passes, w)))) =
    output_goes c c.mapfile line end maps files lines e (with_opens d os) rest on grew w

-- after reads of maps
goes_after : (s : Setting) (files : List ℕ → Option File) (g : Gain) (load : List Call) (rest : List Entry) → AreMapReads load
    → g.calls ≡ map Returned load ++ rest → Goes s files (record g { calls = rest }) → Goes s files g
goes_after s files g load rest reads grew (InMaps maps more none broke) =
    InMaps (load ++ maps) (All-append IsMapRead load maps reads more) none
    (broke_in_both MapRead load maps [] g.calls
    (subst (λ (r : List Entry). BrokeAt MapRead maps (map Returned load) r) (sym grew)
    (subst (λ (r : List Entry). BrokeAt MapRead maps r (map Returned load ++ rest)) (append-nil (map Returned load))
    (broke_after MapRead maps (map Returned load) [] rest broke))))
goes_after s files g load rest reads grew (AfterMaps maps rest' more grew' on) =
    AfterMaps (load ++ maps) rest' (All-append IsMapRead load maps reads more)
    (grew ∙ ap (λ (r : List Entry). map Returned load ++ r) grew' ∙ made_both load maps rest') on

-- a rescue that made no call
none_goes : (s : Setting) (files : List ℕ → Option File) (g : Gain) → s.has_mapfile ≡ true → g.calls ≡ [] → g.reads ≡ [] → Goes s files g
none_goes s files g on none unread =
    AfterMaps [] g.calls (All-nil IsMapRead) refl (opening_goes s files g [] (settling_calls s) on refl unread (inl none))

-- a rescue that reads a map, if an option names one, and goes on as it should
map_goes : (which : Which) (mode : Mode) (name : Option (List ℕ)) (s : Setting) (files : List ℕ → Option File) (more : List (WorkStep Ending))
    (run : Ending → Deeds → Type 0) (e : Ending) (d : Deeds) → s.has_mapfile ≡ true
    → ((h : Deeds) → Works rescue_faults more run e h → Goes s files h.gain)
    → Works rescue_faults (map_rows which mode name (file_named name files) ++ more) run e d → Goes s files d.gain
map_goes which mode None s files more run e d on next (inl (is, none)) = none_goes s files d.gain on none.gain.calls none.gain.reads
map_goes which mode None s files more run e d on next (inr (absent, inl (refused, none))) =
    none_goes s files d.gain on none.gain.calls none.gain.reads
map_goes which mode None s files more run e d on next (inr (absent, inr (passes, w))) = next d w
map_goes which mode (Some n) s files more run e d on next (inl (load, is, begins, broke, only)) =
    InMaps load (load_reads n (files n) load begins) only.reads broke
map_goes which mode (Some n) s files more run e d on next (inr (inl (load, is, begins, all, only))) =
    goes_after s files d.gain load [] (load_reads n (files n) load begins) (all ∙ sym (append-nil (map Returned load)))
    (none_goes s files (with_calls d []).gain on refl only.reads)
map_goes which mode (Some n) s files more run e d on next (inr (inr (load, rest, loaded, grew, inl (refused, none)))) =
    goes_after s files d.gain load rest (load_reads n (files n) load loaded.begins) grew
    (none_goes s files (with_calls d rest).gain on none.gain.calls none.gain.reads)
map_goes which mode (Some n) s files more run e d on next (inr (inr (load, rest, loaded, grew, inr (accepted, w)))) =
    goes_after s files d.gain load rest (load_reads n (files n) load loaded.begins) grew (next (with_calls d rest) w)

pub work_goes : (c : Command) (line : List ℕ) (end : ℕ) (maps : Maps) (files : List ℕ → Option File)
    (lines : List (List ℕ)) (e : Ending) (d : Deeds) → (setting_of c line end maps).has_mapfile ≡ true
    → Works rescue_faults (worked_rows c (found_in c files) end)
    (Rescues (setting_of c line end maps) (mapfile_of c files) lines) e d
    → Goes (setting_of c line end maps) files d.gain
work_goes c line end maps files lines e d on works =
    let s : Setting = setting_of c line end maps in
    let run : Ending → Deeds → Type 0 = Rescues s (mapfile_of c files) lines in
    let opening : List (WorkStep Ending) = opened_rows c (found_in c files) end in
    map_goes DomainMap (map_mode c.options.loose) c.domain_map s files
    (map_rows TestMap (map_mode c.options.loose) c.test_map (file_named c.test_map files) ++ opening) run e d on
    (λ h more. map_goes TestMap (map_mode c.options.loose) c.test_map s files opening run e h on
    (λ k last. AfterMaps [] k.gain.calls (All-nil IsMapRead) refl (goes_on c line end maps files lines e k on last)) more)
    works

-- where nothing was done but that maps were read, a stop is safe, whatever the input's length
pub maps_cut : (maps : List Call) (calls : List Entry) → (calls ≡ map Returned maps) ⊎ BrokeAt MapRead maps [] calls → Cut maps calls
maps_cut maps calls (inl all) = subst (Cut maps) (sym all) (cut_all maps)
maps_cut maps calls (inr broke) = broke_cut MapRead [] maps calls broke

pub maps_stop : (b : Before) (s : Setting) (g : Gain) → IsOnlyMaps g → RescueStopsBy b s g
maps_stop b s g m =
    cut_reads_by (λ began state. saves_of s began state g)
    (λ old began state n map image. Held s g.reads old map image) true b s m.maps g.calls m.are
    (maps_cut m.maps g.calls m.calls)

-- where nothing was done, what is found could be found before
nothing_left : (b : Before) (g : Gain) (k : ℕ) (files : List ℕ → Option File) → IsNothing g → k ≤ length g.calls → LeftBy b g.calls k files
    → MayBeLeft b.start b.earlier (length b.earlier) files
nothing_left b g k files none le left =
    let empty : length g.calls ≡ 0 = ap length none.calls in
    let here : length b.earlier + k ≡ length b.earlier = omega (arith, le, empty) in
    let P : ℕ → Type 0 = λ n. MayBeLeft b.start (b.earlier ++ g.calls) n files in
    let Q : List Entry → Type 0 = λ r. MayBeLeft b.start r (length b.earlier) files in
    subst Q (ap (λ c. b.earlier ++ c) none.calls ∙ append-nil b.earlier) (subst P here left)

no_barrier : (g : Gain) (k : ℕ) → IsNothing g → k ≤ length g.calls → has_barrier (take k g.calls) ≡ true → ⊥
no_barrier g k none le is =
    let empty : length g.calls ≡ 0 = ap length none.calls in
    let zero : k ≡ 0 = omega (arith, le, empty) in
    let P : ℕ → Type 0 = λ n. has_barrier (take n g.calls) ≡ true in
    let never : false ≡ true = subst P zero is in cc

-- any run that saves while it goes is stopped safely where nothing was done
pub nothing_stops_by : (saves : List Status → Option MapState → List Snapshot)
    (promise : List ℕ → List Status → Option MapState → ℕ → List Status → List ℕ → Type 0) (makes : Bool) (b : Before)
    (s : Setting) (g : Gain) → IsNothing g → StopsBy saves promise makes b s g.calls
nothing_stops_by saves promise makes b s g none = record {
  before = λ stop is. record {
    before = stop.files;
    left = nothing_left b g stop.k stop.files none stop.within stop.left;
    others = λ name output draft. refl;
    output = inl refl;
    draft = inl refl;
  };
  past = λ stop is. absurd (no_barrier g stop.k none stop.within is);
  reads = λ k within is. absurd (no_barrier g k none within is);
  others = λ stop name output mapfile draft.
      (stop.files, nothing_left b g stop.k stop.files none stop.within stop.left, refl);
}
