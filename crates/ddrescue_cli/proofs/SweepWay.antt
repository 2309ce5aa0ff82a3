-- How far a filling or a generating came, after the reads of a map that an option names.
use Rattle.std.specs.Bool.{⊤}
use Rattle.std.proofs.Common.{◌≡◌, ℕ, true, false, List, [], ◌∷◌, ◌++◌, map, length, Option, Some, None, is_some, refl, sym, ap, ◌∙◌, inl, inr, subst}
use Rattle.std.proofs.lemmas.List.Elements.{All-nil, All-append}
use Rattle.block_list.specs.declared.types.TypeSet.{TypeSet}
use Rattle.mapfile_text.specs.declared.read.Mode.{Mode}
use Rattle.crash_site.specs.declared.site.SiteCall.TheVariants.{MapRead}
use Rattle.crash_site.specs.Files.{File, file_named}
use Rattle.crash_site.specs.Calls.{Call, Entry, Done}
use Rattle.mapfile_resume.specs.Named.{map_mode}
use Rattle.rescue_rules.specs.declared.stop.RunEnd.{RunEnd}
use Rattle.rescue_rules.specs.Setting.{Setting}
use Rattle.rescue_rules.specs.Work.{Gain, AreMapReads}
use Rattle.rescue_rules.proofs.CutLemmas.{Cut, cut_all, cut_past}
use Rattle.rescue_rules.proofs.GoesLemmas.{broke_cut}
use Rattle.sweep_rules.specs.Sweep.{Sweeper, Swept, filler, generator}
use Rattle.program_promise.specs.Work.{Deeds, WorkStep, Take, Look, Open, Works, with_calls, with_opens}
use Rattle.program_promise.proofs.FrontLemmas.{IsMapRead, load_reads, made_both}
use Rattle.ddrescue_words.specs.Options.{cluster_of}
use Rattle.ddrescue_words.specs.Command.{Command}
use Rattle.task_files.specs.declared.ending.Ending.{Ending}
use Rattle.task_files.specs.declared.ending.Which.{Which}
use Rattle.task_files.specs.declared.ending.Which.TheVariants.{DomainMap}
use Rattle.task_files.specs.Asked.{Maps, setting_of}
use Rattle.task_files.specs.Maps.{found_in}
use Rattle.task_files.specs.Refusals.{PatternEmpty}
use Rattle.task_files.specs.Work.{rescue_faults, files_rows, map_rows}
use Rattle.task_sweeps.specs.Pattern.{ThenPattern, IsLost, IsShort, IsRead, with_reads}
use Rattle.task_sweeps.specs.Modes.{Fills, Generates, ThenSweep, fill_setting}
use Rattle.ddrescue_cli.proofs.SweepGoes.{SweepGoes, files_go}

-- It read maps and no more, or went on after them, and was ready.
pub data SweepWay (ready : Type 0) (s : Setting) (w : Sweeper) (files : List ℕ → Option File) (pieces : List Swept)
    (end : RunEnd) (g : Gain) : Type 0 where
  InMaps : (maps : List Call) → AreMapReads maps → Cut maps g.calls → g.times ≡ []
      → SweepWay ready s w files pieces end g
  AfterMaps : (maps : List Call) (h : Gain) → AreMapReads maps → g.calls ≡ map Done maps ++ h.calls → h.times ≡ g.times
      → ready → SweepGoes s w files pieces end h → SweepWay ready s w files pieces end g

module _ (ready : Type 0) (s : Setting) (w : Sweeper) (files : List ℕ → Option File) (pieces : List Swept) (end : RunEnd)
  where
    abbrev Way : Gain → Type 0
    Way g = SweepWay ready s w files pieces end g

    -- it made no call
    idle_way : (g : Gain) → g.calls ≡ [] → g.times ≡ [] → Way g
    idle_way g none still = InMaps [] (All-nil IsMapRead) (subst (Cut []) (sym none) tt) still

    way_after : (g : Gain) (load : List Call) (rest : List Entry) → AreMapReads load → g.calls ≡ map Done load ++ rest
        → Way (record g { calls = rest }) → Way g
    way_after g load rest reads grew (InMaps maps more cut still) =
        InMaps (load ++ maps) (All-append IsMapRead load maps reads more)
        (subst (Cut (load ++ maps)) (sym grew) (cut_past load maps rest cut)) still
    way_after g load rest reads grew (AfterMaps maps h more grew' timed is goes) =
        AfterMaps (load ++ maps) h (All-append IsMapRead load maps reads more)
        (grew ∙ ap (λ (r : List Entry). map Done load ++ r) grew' ∙ made_both load maps h.calls) timed is goes

    -- it read a map, if an option names one
    map_way : (which : Which) (mode : Mode) (name : Option (List ℕ)) (more : List (WorkStep Ending))
        (run : Ending → Deeds → Type 0) (e : Ending) (d : Deeds)
        → ((rest : List Entry) → Works rescue_faults more run e (with_calls d rest) → Way (record d.gain { calls = rest }))
        → Works rescue_faults (map_rows which mode name (file_named name files) ++ more) run e d → Way d.gain
    map_way which mode None more run e d next (inl (is, idle)) = idle_way d.gain idle.gain.calls idle.gain.times
    map_way which mode None more run e d next (inr (absent, inl (refused, idle))) = idle_way d.gain idle.gain.calls idle.gain.times
    map_way which mode None more run e d next (inr (absent, inr (passes, w))) = next d.gain.calls w
    map_way which mode (Some n) more run e d next (inl (load, is, begins, broke, only)) =
        InMaps load (load_reads n (files n) load begins) (broke_cut MapRead [] load d.gain.calls broke) only.times
    map_way which mode (Some n) more run e d next (inr (inl (load, is, begins, all, only))) =
        InMaps load (load_reads n (files n) load begins) (subst (Cut load) (sym all) (cut_all load)) only.times
    map_way which mode (Some n) more run e d next (inr (inr (load, rest, loaded, grew, inl (refused, idle)))) =
        way_after d.gain load rest (load_reads n (files n) load loaded.begins) grew
        (idle_way (record d.gain { calls = rest }) idle.gain.calls idle.gain.times)
    map_way which mode (Some n) more run e d next (inr (inr (load, rest, loaded, grew, inr (passes, w)))) =
        way_after d.gain load rest (load_reads n (files n) load loaded.begins) grew (next rest w)

-- a command with a mapfile of this name
abbrev pub named : Command → (name : List ℕ) → Command
named c n = record c { mapfile = Some n }

some_name : (mapfile : Option (List ℕ)) → is_some mapfile ≡ true → (n : List ℕ) × (Some n ≡ mapfile)
some_name None on = absurd (cc)
some_name (Some n) on = (n, refl)

-- what holds of each command with a mapfile holds of one that has some
pub by_name : (P : Command → Type 0) → ((c : Command) (n : List ℕ) → P (named c n)) → (c : Command)
    → is_some c.mapfile ≡ true → P c
by_name P each c on =
    let name : (n : List ℕ) × (Some n ≡ c.mapfile) = some_name c.mapfile on in
    subst P (ap (λ (m : Option (List ℕ)). record c { mapfile = m }) name.1) (each c name.0)

-- ---- a filling

module _ (files : List ℕ → Option File) (line : List ℕ) (input_end top : ℕ) (maps : Maps) (types : TypeSet)
    (buffer : List ℕ) (pieces : List Swept) (end : RunEnd) (lines : List (List ℕ)) (e : Ending) (d : Deeds) where
  abbrev asked : Command → Setting
  asked c = fill_setting c line top maps

  -- the buffer is a cluster
  abbrev Room : Command → Type 0
  Room c = length buffer ≡ cluster_of c.options

  abbrev FillWay : Command → Type 0
  FillWay c =
      Fills types c (found_in c files) input_end top (asked c) buffer pieces end lines e d
      → SweepWay (Room c) (asked c) (filler (asked c) types buffer) files pieces end d.gain

  module _ (c : Command) (n : List ℕ) where
    abbrev s : Setting
    s = asked (named c n)

    abbrev w : Sweeper
    w = filler s types buffer

    abbrev Sweeping : Ending → Deeds → Type 0
    Sweeping =
        Works rescue_faults (files_rows true (named c n) (found_in (named c n) files) top)
        (ThenSweep s w (files n) pieces end lines)

    -- after the pattern
    pattern_way : (x : Deeds) → ThenPattern (cluster_of c.options) input_end buffer Sweeping e x
        → SweepWay (Room c) s w files pieces end x.gain
    pattern_way x (IsLost lost idle) = idle_way (Room c) s w files pieces end x.gain idle.gain.calls idle.gain.times
    pattern_way x (IsShort r read less unread one) = idle_way (Room c) s w files pieces end x.gain one.rest.gain.calls one.rest.gain.times
    pattern_way x (IsRead r more read all repeated reads next) =
        AfterMaps [] (with_reads x more).gain (All-nil IsMapRead) refl refl repeated.long
        (files_go s w files pieces end lines refl c.options.forced c.options top e (with_reads x more) next)

    -- after the map that an option names
    input_way : (rest : List Entry)
        → Works rescue_faults (Open c.infile ∷ Look (PatternEmpty input_end) ∷ Take ∷ [])
        (ThenPattern (cluster_of c.options) input_end buffer Sweeping) e (with_calls d rest)
        → SweepWay (Room c) s w files pieces end (record d.gain { calls = rest })
    input_way rest (inl (is, opens, none)) = idle_way (Room c) s w files pieces end (record d.gain { calls = rest }) none.calls none.times
    input_way rest (inr (os, opens, inl (refused, idle))) =
        idle_way (Room c) s w files pieces end (record d.gain { calls = rest }) idle.gain.calls idle.gain.times
    input_way rest (inr (os, opens, inr (passes, inl (starved, idle)))) =
        idle_way (Room c) s w files pieces end (record d.gain { calls = rest }) idle.gain.calls idle.gain.times
    input_way rest (inr (os, opens, inr (passes, inr read))) = pattern_way (with_opens (with_calls d rest) os) read

  fill_named : (c : Command) (n : List ℕ) → FillWay (named c n)
  fill_named c n (inl (starved, idle)) = idle_way (Room c) (s c n) (w c n) files pieces end d.gain idle.gain.calls idle.gain.times
  fill_named c n (inr (inl (refused, idle))) = idle_way (Room c) (s c n) (w c n) files pieces end d.gain idle.gain.calls idle.gain.times
  fill_named c n (inr (inr (passes, works))) =
      map_way (Room c) (s c n) (w c n) files pieces end DomainMap (map_mode c.options.loose) c.domain_map
      (Open c.infile ∷ Look (PatternEmpty input_end) ∷ Take ∷ [])
      (ThenPattern (cluster_of c.options) input_end buffer (Sweeping c n)) e d (input_way c n) works

  pub fill_way : (c : Command) → is_some c.mapfile ≡ true → FillWay c
  fill_way = by_name FillWay fill_named

-- ---- a generating

module _ (files : List ℕ → Option File) (line : List ℕ) (input_end : ℕ) (maps : Maps) (pieces : List Swept)
    (end : RunEnd) (lines : List (List ℕ)) (e : Ending) (d : Deeds) where
  abbrev wanted : Command → Setting
  wanted c = setting_of c line input_end maps

  abbrev GenerateWay : Command → Type 0
  GenerateWay c =
      Generates c (found_in c files) input_end (wanted c) pieces end lines e d
      → SweepWay ⊤ (wanted c) (generator (wanted c)) files pieces end d.gain

  module _ (c : Command) (n : List ℕ) where
    abbrev z : Setting
    z = wanted (named c n)

    abbrev Looking : Ending → Deeds → Type 0
    Looking = ThenSweep z (generator z) (files n) pieces end lines

    open_way : (rest : List Entry)
        → Works rescue_faults (Open c.infile ∷ files_rows false (named c n) (found_in (named c n) files) input_end) Looking e
        (with_calls d rest) → SweepWay ⊤ z (generator z) files pieces end (record d.gain { calls = rest })
    open_way rest (inl (is, opens, none)) =
        idle_way ⊤ z (generator z) files pieces end (record d.gain { calls = rest }) none.calls none.times
    open_way rest (inr (os, opens, works)) =
        AfterMaps [] (with_calls d rest).gain (All-nil IsMapRead) refl refl tt
        (files_go z (generator z) files pieces end lines refl c.options.forced c.options input_end e
        (with_opens (with_calls d rest) os) works)

  generate_named : (c : Command) (n : List ℕ) → GenerateWay (named c n)
  generate_named c n (inl (starved, idle)) =
      idle_way ⊤ (z c n) (generator (z c n)) files pieces end d.gain idle.gain.calls idle.gain.times
  generate_named c n (inr (inl (refused, idle))) =
      idle_way ⊤ (z c n) (generator (z c n)) files pieces end d.gain idle.gain.calls idle.gain.times
  generate_named c n (inr (inr (passes, works))) =
      map_way ⊤ (z c n) (generator (z c n)) files pieces end DomainMap (map_mode c.options.loose) c.domain_map
      (Open c.infile ∷ files_rows false (named c n) (found_in (named c n) files) input_end) (Looking c n) e d (open_way c n)
      works

  pub generate_way : (c : Command) → is_some c.mapfile ≡ true → GenerateWay c
  generate_way = by_name GenerateWay generate_named
