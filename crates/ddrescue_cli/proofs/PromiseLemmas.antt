-- What is done for a task, by what its work did after the words.
use Rattle.std.proofs.Common.{◌≡◌, ◌⊎◌, ℕ, ◌<◌, ◌^◌, Bool, true, List, [], Option, Some, None, is_some, refl, inl, inr, subst, arith}
use Rattle.std.specs.Prelude.{option_map}
use Rattle.block_list.specs.declared.types.TypeSet.{TypeSet}
use Rattle.crash_site.specs.Files.{File, bytes_of}
use Rattle.crash_site.specs.SiteState.{files_in}
use Rattle.mapfile_save.specs.MapNames.{names_of}
use Rattle.rescue_rules.specs.declared.stop.Stop.TheVariants.{NoMemory as NoRoom}
use Rattle.rescue_rules.specs.declared.stop.RunEnd.{RunEnd}
use Rattle.rescue_rules.specs.declared.stop.RunEnd.TheVariants.{Stopped as RunStopped}
use Rattle.rescue_rules.specs.Laws.{AreThreeNames, AreTimes}
use Rattle.rescue_rules.proofs.StopsLemmas.{rescue_stops_by}
use Rattle.sweep_rules.specs.Sweep.{Swept}
use Rattle.sweep_rules.specs.SweepLaws.{AreGiven}
use Rattle.program_promise.specs.Work.{Works}
use Rattle.ddrescue_words.specs.Command.{Command, Rescue, Fill, Generate}
use Rattle.ddrescue_words.specs.Asking.{AreInLimits, HasMapfile}
use Rattle.program_promise.specs.World.{WorldState, with_console}
use Rattle.program_promise.specs.Promise.{DoneFor}
use Rattle.task_files.specs.declared.ending.Ending.{Ending}
use Rattle.task_files.specs.Asked.{Maps, setting_of}
use Rattle.task_files.specs.Maps.{Found, AreAskedFor, found_in}
use Rattle.task_files.specs.Findings.{Findings, Agrees}
use Rattle.task_files.specs.Work.{Rescues, rescue_faults, worked_rows}
use Rattle.task_files.specs.Steps.{IsOnlyMaps, Worked}
use Rattle.task_sweeps.specs.Modes.{Fills, GenerateStops, Generates, IsMapEnd, fill_setting}
use Rattle.task_sweeps.specs.SweepSteps.{WorkedFill, WorkedGenerate}
use Rattle.ddrescue_cli.specs.Told.{calls_of}
use Rattle.ddrescue_cli.specs.ToldParts.{across}
use Rattle.ddrescue_cli.specs.Tasks.{TaskOutside, AgreesOver, TaskStops}
use Rattle.ddrescue_cli.specs.Words.{same_of}
use Rattle.ddrescue_cli.specs.Ddrescue.{rescue_program}
use Rattle.task_files.proofs.ApartLemmas.{three_names, names_pass}
use Rattle.task_files.proofs.ListingLemmas.{one_listing}
use Rattle.ddrescue_cli.proofs.AskedLemmas.{sensible_in, fill_sensible}
use Rattle.ddrescue_cli.proofs.GoesLemmas.{work_goes, maps_stop}
use Rattle.ddrescue_cli.proofs.SweepSafely.{fill_stops, generate_stops, only_maps_stop}
use Rattle.ddrescue_cli.proofs.SweepWay.{fill_way, generate_way}

-- what was outside, with what a sweep knows besides
abbrev outside_with : Findings → (top : ℕ) → (buffer : List ℕ) → List Swept → RunEnd → TaskOutside
outside_with o top buffer pieces swept = record {
  found = o.found;
  end = o.end;
  maps = o.maps;
  top = top;
  lines = o.lines;
  buffer = buffer;
  pieces = pieces;
  swept = swept;
}

-- the console is no matter of what is outside
pub over_beside : (c : Command) (AreMaps : Found → Maps → Type 0) (old new : WorldState) (o : Findings) (top : ℕ)
    (buffer : List ℕ) (pieces : List Swept) (swept : RunEnd) → Agrees c (across old new) o.found o.end o.maps o.did
    → AreAskedFor c o.maps → AreMaps o.found o.maps → IsMapEnd o.found.mapfile top
    → AgreesOver c AreMaps (outside_with o top buffer pieces swept) o.did old (with_console new old.console)
over_beside c AreMaps old new o top buffer pieces swept a asked are tops = record {
  agrees = record {
    opens = a.opens;
    found = a.found;
    calls = a.calls;
    end = a.end;
    reads = a.reads;
    times = a.times;
  };
  asked_maps = asked;
  are_maps = are;
  tops = tops;
}

-- how far the map of a mapfile reaches
pub top_of : (file : Option File) → IsMapEnd file (one_listing file).end
top_of file first end lists = ((one_listing file).only first end lists).end_is

-- a mapfile is among the names
pub named_on : (mapfile : Option (List ℕ)) → is_some mapfile ≡ true → is_some (option_map names_of mapfile) ≡ true
named_on None on = absurd (cc)
named_on (Some n) on = refl

module _ (c : Command) (line : List ℕ) (e : Ending) (old new : WorldState) (different : same_of c ≡ None) where
  -- ---- a rescue

  -- what was done by then, among files
  abbrev WorksIn : Findings → Found → Type 0
  WorksIn o found =
      Works rescue_faults (worked_rows c found o.end) (Rescues (setting_of c line o.end o.maps) found.mapfile o.lines) e
      o.did

  pub rescue_stops : (o : Findings) → AreInLimits c.options → (setting_of c line o.end o.maps).has_mapfile ≡ true
      → WorksIn o (found_in c (files_in old.site)) → AreTimes o.did.gain.times
      → IsOnlyMaps o.did.gain ⊎ (o.end < 2 ^ 63)
      → TaskStops (Rescue c) line (outside_with o 0 [] [] (RunStopped NoRoom)) o.did old.site
  rescue_stops o limits on works fit (inl only) = λ named.
      maps_stop (calls_of old.site) (setting_of c line o.end o.maps) o.did.gain only
  rescue_stops o limits on works fit (inr short) = λ named.
      rescue_stops_by (calls_of old.site) (setting_of c line o.end o.maps) o.did.gain
      (sensible_in c line o.end o.maps limits) on (three_names c line o.end o.maps on different) short fit
      (work_goes c line o.end o.maps (files_in old.site) o.lines e o.did on works)

  abbrev pub rescue_done : (heard heard' : Bool) → AreInLimits c.options → Worked c line heard heard' e (across old new)
      → DoneFor rescue_program (Rescue c) line e old (with_console new old.console)
  rescue_done heard heard' limits w =
      let o : Findings = w.outside in
      let top : ℕ = (one_listing o.found.mapfile).end in
      record {
        outside = outside_with o top [] [] (RunStopped NoRoom);
        did = o.did;
        agrees = over_beside c _ old new o top [] [] (RunStopped NoRoom) w.agrees w.asked_maps w.are_maps
            (top_of o.found.mapfile);
        work = inr (inr (names_pass c different, w.works));
        leaves = record {
          silent = λ none. (w.silent none, refl);
          stops = λ tells on.
              rescue_stops o limits on (subst (WorksIn o) (w.agrees.found tells) w.works) w.fit w.short on;
        };
      }

  -- ---- a filling

  pub fill_three : (o : Findings) (top : ℕ) → is_some c.mapfile ≡ true → AreThreeNames (fill_setting c line top o.maps)
  fill_three o top on =
      let three : AreThreeNames (setting_of c line top o.maps) =
      three_names c line top o.maps (named_on c.mapfile on) different in
      record { map = three.map; draft = three.draft; apart = three.apart; own = three.own }

  abbrev pub fill_done : (types : TypeSet) (heard heard' : Bool) → HasMapfile c
      → WorkedFill types c line heard heard' e (across old new)
      → DoneFor rescue_program (Fill types c) line e old (with_console new old.console)
  fill_done types heard heard' has w =
      let o : Findings = w.outside in
      record {
        outside = outside_with o w.top w.buffer w.pieces w.end;
        did = o.did;
        agrees = over_beside c _ old new o w.top w.buffer w.pieces w.end w.is_outside.agrees w.is_outside.asked_maps
            w.is_outside.are_maps w.tops;
        work = w.works;
        leaves = record {
          silent = w.silent;
          stops = λ tells.
              fill_stops (calls_of old.site) (fill_setting c line w.top o.maps) types w.buffer w.pieces w.end o.did.gain
              (named_on c.mapfile has.named) (fill_three o w.top has.named)
              (fill_sensible c line w.top o.maps has.limits) (omega arith) w.is_outside.fit
              (fill_way (files_in old.site) line o.end w.top o.maps types w.buffer w.pieces w.end o.lines e o.did c
              has.named
              (subst
              (λ (found : Found). Fills types c found o.end w.top (fill_setting c line w.top o.maps) w.buffer w.pieces
              w.end o.lines e o.did)
              (w.is_outside.agrees.found tells) w.works));
        };
      }

  -- ---- a generating

  -- how a generating works, among files
  abbrev GeneratesIn : Findings → List Swept → RunEnd → Found → Type 0
  GeneratesIn o pieces end found =
      Generates c found o.end (setting_of c line o.end o.maps) pieces end o.lines e o.did

  pub generates_safely : (o : Findings) (pieces : List Swept) (end : RunEnd) → HasMapfile c → AreTimes o.did.gain.times
      → AreGiven (setting_of c line o.end o.maps) (bytes_of (files_in old.site c.outfile)) pieces
      → GeneratesIn o pieces end (found_in c (files_in old.site)) → IsOnlyMaps o.did.gain ⊎ (o.end < 2 ^ 63)
      → GenerateStops (calls_of old.site) (setting_of c line o.end o.maps) pieces end o.did.gain
  generates_safely o pieces end has fit given works (inl only) =
      only_maps_stop (calls_of old.site) (setting_of c line o.end o.maps) pieces end o.did.gain only
  generates_safely o pieces end has fit given works (inr low) =
      let on : (setting_of c line o.end o.maps).has_mapfile ≡ true = named_on c.mapfile has.named in
      generate_stops (calls_of old.site) (setting_of c line o.end o.maps) pieces end o.did.gain on
      (three_names c line o.end o.maps on different) (sensible_in c line o.end o.maps has.limits) low fit given
      (generate_way (files_in old.site) line o.end o.maps pieces end o.lines e o.did c has.named works)

  abbrev pub generate_done : (heard heard' : Bool) → HasMapfile c → WorkedGenerate c line heard heard' e (across old new)
      → DoneFor rescue_program (Generate c) line e old (with_console new old.console)
  generate_done heard heard' has w =
      let o : Findings = w.outside in
      let top : ℕ = (one_listing o.found.mapfile).end in
      record {
        outside = outside_with o top [] w.pieces w.end;
        did = o.did;
        agrees = over_beside c _ old new o top [] w.pieces w.end w.is_outside.agrees w.is_outside.asked_maps
            w.is_outside.are_maps (top_of o.found.mapfile);
        work = w.works;
        leaves = record {
          silent = w.silent;
          stops = λ tells.
              let is : o.found ≡ found_in c (files_in old.site) = w.is_outside.agrees.found tells in (
                w.given tells,
                generates_safely o w.pieces w.end has w.is_outside.fit
                    (subst (λ (found : Found). AreGiven (setting_of c line o.end o.maps) (bytes_of found.output) w.pieces) is
                    (w.given tells))
                    (subst (GeneratesIn o w.pieces w.end) is w.works) w.short,
              );
        };
      }
