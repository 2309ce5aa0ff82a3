-- What a filling and a generating did that are done.
use Rattle.std.proofs.Common.{◌≡◌, ℕ, true, List, ◌∷◌, ◌++◌, map, Option, Some, None, is_some, refl, sym, ap, ◌∙◌, inl, inr, subst, append_assoc}
use Rattle.std.proofs.lemmas.List.{map-append}
use Rattle.block_list.specs.declared.status.Status.{Status}
use Rattle.block_list.specs.declared.types.TypeSet.{TypeSet}
use Rattle.mapfile_text.specs.declared.state.MapState.{MapState}
use Rattle.crash_site.specs.Files.{File, file_named}
use Rattle.crash_site.specs.Calls.{Call, Entry, Done as Returned, image_open}
use Rattle.mapfile_save.specs.Loading.{BeginsLoad, barrier_calls}
use Rattle.rescue_rules.specs.declared.stop.Stop.TheVariants.{SourceLost as InputLost, Site, LimitMet as Limited, NoMemory as NoRoom}
use Rattle.rescue_rules.specs.declared.stop.RunEnd.{RunEnd}
use Rattle.rescue_rules.specs.declared.stop.RunEnd.TheVariants.{Done as Finished, Stopped, SaveFailed}
use Rattle.rescue_rules.specs.Setting.{Setting}
use Rattle.rescue_rules.specs.Start.{Stands}
use Rattle.rescue_rules.specs.Events.{began_at}
use Rattle.rescue_rules.specs.Work.{Gain, AreMapReads}
use Rattle.rescue_rules.proofs.MapfileLemmas.{opening_by}
use Rattle.sweep_rules.specs.Sweep.{Sweeper, Sweep, Swept, filler, generator, IsSweep, IsSweptOut, sweep_over, after_pieces, sweep_end}
use Rattle.sweep_rules.specs.SweepStops.{has_swept_out}
use Rattle.sweep_rules.specs.SweepWork.{SweepEnds, IsSaved, IsUnsaved, IsCut, IsBroken}
use Rattle.program_promise.specs.Work.{Deeds, WorkStep, Works, with_calls, with_opens}
use Rattle.program_promise.proofs.AnswerLemmas.{Stops, IsRefused, Starved, Unopened, Broken, Refused, Passed, passed}
use Rattle.program_promise.proofs.FrontLemmas.{made_both}
use Rattle.ddrescue_words.specs.Options.{cluster_of}
use Rattle.ddrescue_words.specs.Command.{Command}
use Rattle.task_files.specs.declared.ending.Ending.{Ending}
use Rattle.task_files.specs.declared.ending.Ending.TheVariants.{Done, SameName, SourceFault, SourceLost, PatternUnread, SiteFault, NoMemory}
use Rattle.task_files.specs.Asked.{Maps, setting_of}
use Rattle.task_files.specs.Maps.{Found, found_in}
use Rattle.task_files.specs.Refusals.{NamesRefused}
use Rattle.task_files.specs.Work.{answer_of, rescue_faults, files_rows}
use Rattle.task_sweeps.specs.Pattern.{ThenPattern, IsLost, IsShort, IsRead, with_reads}
use Rattle.task_sweeps.specs.Modes.{Fills, Generates, MaySweep, ThenSweep, fill_rows, fill_setting, generate_rows}
use Rattle.ddrescue_laws.proofs.DoneLemmas.{answer_done, if_reads}
use Rattle.ddrescue_laws.proofs.SweepCounts.{whole_calls, sweep_calls_of}
use Rattle.ddrescue_cli.proofs.SweepWay.{by_name, named}
use Rattle.ddrescue_cli.proofs.RefusalLemmas.{fill_plain, files_plain, generate_plain}

-- A sweep that went on to its end over files, after reads of maps, its opening and its load.
pub record DoneSweep (s : Setting) (w : Sweeper) (files : List ℕ → Option File) (pieces : List Swept) (end : RunEnd)
    (times : List ℕ) (calls : List Entry) : Type 0 where
  pub finished : has_swept_out end ≡ true
  pub maps : List Call
  pub are : AreMapReads maps
  pub load : List Call
  pub begins : BeginsLoad s.names.map (files s.names.map) load
  pub statuses : List Status
  pub state : Option MapState
  pub stands : Stands (files s.names.map) s.end statuses state
  pub sweep : IsSweep s w (sweep_over w statuses state (began_at times)) pieces
  pub over : IsSweptOut s w (after_pieces w (sweep_over w statuses state (began_at times)) pieces)
  pub calls_are : calls
      ≡ map Returned (whole_calls s w maps load (sweep_over w statuses state (began_at times)) pieces
      (sweep_end true (after_pieces w (sweep_over w statuses state (began_at times)) pieces)))

-- the end of one
record EndedSweep (s : Setting) (w : Sweeper) (m : Sweep) (es : List Swept) (calls : List Entry) : Type 0 where
  over : IsSweptOut s w (after_pieces w m es)
  all : calls ≡ map Returned (sweep_calls_of s w m es (sweep_end true (after_pieces w m es)))

ended : (s : Setting) (w : Sweeper) (m : Sweep) (es : List Swept) (calls : List Entry) (end : RunEnd)
    → Done ≡ answer_of end → SweepEnds s w m es calls end → EndedSweep s w m es calls
ended s w m es calls end is (IsSaved None by same all) = record { over = by; all = all }
ended s w m es calls end is (IsSaved (Some stop) by same all) =
    absurd (let no : Some stop ≡ None = answer_done end (Some stop) is same in cc)
ended s w m es calls end is (IsUnsaved stop call by same broke) =
    absurd (let no : Done ≡ SiteFault call stop = is ∙ ap answer_of same in cc)
ended s w m es calls end is (IsCut p q piece same broke) =
    absurd (let no : Done ≡ SiteFault _ None = is ∙ ap answer_of same in cc)
ended s w m es calls end is (IsBroken before last call split same broke) =
    absurd (let no : Done ≡ SiteFault call None = is ∙ ap answer_of same in cc)

out_by : (end : RunEnd) → Done ≡ answer_of end → has_swept_out end ≡ true
out_by Finished is = refl
out_by (Stopped InputLost) is = absurd (cc)
out_by _ is = absurd (cc)

-- no row stops as work that is done
pub undone_by : (rows : List (WorkStep Ending)) (e : Ending) → (IsRefused rows e → e ≡ Done → ⊥) → e ≡ Done
    → Stops rescue_faults rows e → ⊥
undone_by rows e plain done (Starved is) = let no : NoMemory ≡ Done = sym is ∙ done in cc
undone_by rows e plain done (Unopened is) = let no : SourceFault ≡ Done = sym is ∙ done in cc
undone_by rows e plain done (Broken call is called) = let no : SiteFault call None ≡ Done = sym is ∙ done in cc
undone_by rows e plain done (Refused refused) = plain refused done

pub unnamed : (c : Command) (e : Ending) → e ≡ Done → NamesRefused c e → ⊥
unnamed c e done refused = let no : SameName refused.0 refused.1 ≡ Done = sym refused.3 ∙ done in cc

-- ---- over files

module _ (s : Setting) (w : Sweeper) (files : List ℕ → Option File) (pieces : List Swept) (end : RunEnd)
    (lines : List (List ℕ)) (e : Ending) (done : e ≡ Done) where
  abbrev pub Sweeping : Ending → Deeds → Type 0
  Sweeping = ThenSweep s w (files s.names.map) pieces end lines

  swept_over : (maps load : List Call) (times : List ℕ) (run : List Entry) (statuses : List Status)
      (state : Option MapState) → AreMapReads maps → BeginsLoad s.names.map (files s.names.map) load
      → Stands (files s.names.map) s.end statuses state → (g : Gain) → g.times ≡ times
      → MaySweep s w statuses state pieces end lines e (record g { calls = run })
      → DoneSweep s w files pieces end times (map Returned (maps ++ (opening_by s w.makes ++ load)) ++ run)
  swept_over maps load times run statuses state are begins stands g timed (inl unbegun) =
      absurd (let no : NoMemory ≡ Done = sym unbegun.0.answer ∙ done in cc)
  swept_over maps load times run statuses state are begins stands g timed (inr swept) =
      let P : List Swept → Type 0 = λ es. EndedSweep s w (sweep_over w statuses state (began_at g.times)) es run in
      let h : EndedSweep s w (sweep_over w statuses state (began_at g.times)) pieces run =
      subst P swept.pieces_are
      (ended s w (sweep_over w statuses state (began_at g.times)) swept.sweeps.events run end (sym done ∙ swept.answer)
      swept.sweeps.ends) in
      let front : List Call = maps ++ (opening_by s w.makes ++ load) in
      let last : List Call = sweep_calls_of s w (sweep_over w statuses state (began_at g.times)) pieces
      (sweep_end true (after_pieces w (sweep_over w statuses state (began_at g.times)) pieces)) in
      subst (λ (t : List ℕ). DoneSweep s w files pieces end t (map Returned front ++ run)) timed
      (record {
        finished = out_by end (sym done ∙ swept.answer);
        maps = maps;
        are = are;
        load = load;
        begins = begins;
        statuses = statuses;
        state = state;
        stands = stands;
        sweep = subst (λ (es : List Swept). IsSweep s w (sweep_over w statuses state (began_at g.times)) es) swept.pieces_are
            swept.sweeps.run;
        over = h.over;
        calls_are = ap (λ (l : List Entry). map Returned front ++ l) h.all ∙ sym (map-append Returned front last)
            ∙ ap (map Returned) (append_assoc maps (opening_by s w.makes ++ load) last
            ∙ ap (λ (l : List Call). maps ++ l) (append_assoc (opening_by s w.makes) load last));
      })

  -- the calls of an opening and a load, one after the other
  grown : (maps load : List Call) (calls rest more run : List Entry)
      → calls ≡ Returned (image_open s.outfile w.makes) ∷ rest → rest ≡ map Returned (barrier_calls s.names) ++ more
      → more ≡ map Returned load ++ run
      → map Returned maps ++ calls ≡ map Returned (maps ++ (opening_by s w.makes ++ load)) ++ run
  grown maps load calls rest more run grew grew' all =
      ap (λ (l : List Entry). map Returned maps ++ l)
      (grew ∙ ap (λ (l : List Entry). Returned (image_open s.outfile w.makes) ∷ l)
      (grew' ∙ ap (λ (l : List Entry). map Returned (barrier_calls s.names) ++ l) all)
      ∙ made_both (opening_by s w.makes) load run)
      ∙ made_both maps (opening_by s w.makes ++ load) run

  -- what was done after rows over the files
  over_files : (maps load : List Call) (d : Deeds) (rest more run : List Entry) → AreMapReads maps
      → d.gain.calls ≡ Returned (image_open s.outfile w.makes) ∷ rest → rest ≡ map Returned (barrier_calls s.names) ++ more
      → more ≡ map Returned load ++ run → BeginsLoad s.names.map (files s.names.map) load
      → Sweeping e (with_calls d run) → DoneSweep s w files pieces end d.gain.times (map Returned maps ++ d.gain.calls)
  over_files maps load d rest more run are grew grew' all begins then =
      subst (DoneSweep s w files pieces end d.gain.times) (sym (grown maps load d.gain.calls rest more run grew grew' all))
      (swept_over maps load d.gain.times run then.statuses then.state are begins then.stands d.gain refl then.sweeps)

-- ---- a filling

module _ (files : List ℕ → Option File) (line : List ℕ) (input_end top : ℕ) (maps : Maps) (types : TypeSet)
    (buffer : List ℕ) (pieces : List Swept) (end : RunEnd) (lines : List (List ℕ)) (e : Ending) (d : Deeds)
    (done : e ≡ Done) where
  abbrev asked : Command → Setting
  asked c = fill_setting c line top maps

  abbrev FillDone : Command → Type 0
  FillDone c =
      Fills types c (found_in c files) input_end top (asked c) buffer pieces end lines e d
      → DoneSweep (asked c) (filler (asked c) types buffer) files pieces end d.gain.times d.gain.calls

  module _ (c : Command) (n : List ℕ) where
    abbrev s : Setting
    s = asked (named c n)

    abbrev found : Found
    found = found_in (named c n) files

    abbrev w : Sweeper
    w = filler s types buffer

    abbrev rows : List (WorkStep Ending)
    rows = files_rows true (named c n) found top

    -- after the map that an option names, and the pattern
    read_done : (load : List Call) (rest : List Entry) (x : Deeds) → AreMapReads load → x.gain.calls ≡ rest
        → x.gain.times ≡ d.gain.times → d.gain.calls ≡ map Returned load ++ rest
        → ThenPattern (cluster_of c.options) input_end buffer
        (Works rescue_faults rows (Sweeping s w files pieces end lines e done)) e x
        → DoneSweep s w files pieces end d.gain.times d.gain.calls
    read_done load rest x are is timed grew (IsLost lost idle) =
        absurd (let no : SourceLost ≡ Done = sym lost ∙ done in cc)
    read_done load rest x are is timed grew (IsShort r read less unread one) =
        absurd (let no : PatternUnread ≡ Done = sym unread ∙ done in cc)
    read_done load rest x are is timed grew (IsRead r more read all repeated reads next) =
        files_done (passed rescue_faults rows (Sweeping s w files pieces end lines e done) e (with_reads x more)
        (undone_by rows e (λ refused. (files_plain true (named c n) found top e refused).done) done) next)
      where
        files_done : Passed rows (Sweeping s w files pieces end lines e done) e (with_reads x more)
            → DoneSweep s w files pieces end d.gain.times d.gain.calls
        files_done (back, out, (later, settled, (loaded, run, is_load, got, then))) =
            subst (λ (t : List ℕ). DoneSweep s w files pieces end t d.gain.calls) timed
            (subst (DoneSweep s w files pieces end x.gain.times)
            (ap (λ (l : List Entry). map Returned load ++ l) is ∙ sym grew)
            (over_files s w files pieces end lines e done load loaded (with_reads x more) back later run are out settled got
            is_load.begins then))

    fill_passed : Passed (fill_rows (named c n) found input_end)
        (ThenPattern (cluster_of c.options) input_end buffer
        (Works rescue_faults rows (Sweeping s w files pieces end lines e done))) e d
        → DoneSweep s w files pieces end d.gain.times d.gain.calls
    fill_passed (load, rest, is_load, grew, (os, read)) =
        read_done load rest (with_opens (with_calls d rest) os)
        (if_reads c.domain_map (file_named c.domain_map files) load is_load) refl refl grew read

  fill_named : (c : Command) (n : List ℕ) → FillDone (named c n)
  fill_named c n w =
      fill_passed c n
      (passed rescue_faults (fill_rows (named c n) (found c n) input_end) _ e d
      (undone_by (fill_rows (named c n) (found c n) input_end) e
      (λ refused is. (fill_plain (named c n) (found c n) input_end e (unnamed (named c n) e is) refused).done is) done) w)

  pub fill_done : (c : Command) → is_some c.mapfile ≡ true → FillDone c
  fill_done = by_name FillDone fill_named

-- ---- a generating

module _ (files : List ℕ → Option File) (line : List ℕ) (input_end : ℕ) (maps : Maps) (pieces : List Swept)
    (end : RunEnd) (lines : List (List ℕ)) (e : Ending) (d : Deeds) (done : e ≡ Done) where
  abbrev wanted : Command → Setting
  wanted c = setting_of c line input_end maps

  abbrev GenerateDone : Command → Type 0
  GenerateDone c =
      Generates c (found_in c files) input_end (wanted c) pieces end lines e d
      → DoneSweep (wanted c) (generator (wanted c)) files pieces end d.gain.times d.gain.calls

  module _ (c : Command) (n : List ℕ) where
    abbrev seen : Found
    seen = found_in (named c n) files

    abbrev z : Setting
    z = wanted (named c n)

    generate_passed : Passed (generate_rows (named c n) seen input_end)
        (Sweeping z (generator z) files pieces end lines e done) e d
        → DoneSweep z (generator z) files pieces end d.gain.times d.gain.calls
    generate_passed (load, rest, is_load, grew, (os, (back, out, (later, settled, (loaded, run, is_loaded, got, then))))) =
        subst (DoneSweep z (generator z) files pieces end d.gain.times) (sym grew)
        (over_files z (generator z) files pieces end lines e done load loaded (with_opens (with_calls d rest) os) back later
        run (if_reads c.domain_map (file_named c.domain_map files) load is_load) out settled got is_loaded.begins then)

  generate_named : (c : Command) (n : List ℕ) → GenerateDone (named c n)
  generate_named c n w =
      generate_passed c n
      (passed rescue_faults (generate_rows (named c n) (seen c n) input_end) _ e d
      (undone_by (generate_rows (named c n) (seen c n) input_end) e
      (λ refused is. (generate_plain (named c n) (seen c n) input_end e (unnamed (named c n) e is) refused).done is) done) w)

  pub generate_done : (c : Command) → is_some c.mapfile ≡ true → GenerateDone c
  generate_done = by_name GenerateDone generate_named
