-- What a rescue did after its words: the reads of maps that options name, and what was done after them.
use Rattle.std.proofs.Common.{◌≡◌, ◌⊎◌, ℕ, ◌<◌, ◌^◌, Bool, IsTrue, List, [], ◌++◌, length, map, Option, Some, None, Ok, Err, refl, sym, ap, ◌∙◌, inl, inr, subst, append_assoc, append-nil}
use Rattle.std.proofs.lemmas.List.Elements.{All-nil, All-append}
use Rattle.block_list.specs.declared.status.Status.{Status}
use Rattle.block_list.specs.Tiled.{Tiled, statuses_in}
use Rattle.mapfile_text.specs.declared.read.Mode.{Mode}
use Rattle.faulty_source.specs.SourceState.{SourceState}
use Rattle.crash_site.specs.declared.site.SiteCall.TheVariants.{MapRead}
use Rattle.crash_site.specs.Files.{File, file_named}
use Rattle.crash_site.specs.Calls.{Call, Entry, Done as Returned}
use Rattle.crash_site.specs.CallsMade.{BrokeAt}
use Rattle.crash_site.specs.SiteState.{SiteState, files_in}
use Rattle.crash_site.specs.SiteChanges.{Stays}
use Rattle.mapfile_resume.specs.Named.{map_mode}
use Rattle.rescue_console.specs.ClockState.{ClockState}
use Rattle.rescue_console.specs.ConsoleState.{ConsoleState}
use Rattle.rescue_rules.specs.Work.{Gain, IsNothing, AreMapReads}
use Rattle.faulty_source.specs.Journal.{IsFrom}
use Rattle.rescue_console.proofs.SpeakingLemmas.{says_none}
use Rattle.program_promise.specs.Work.{Deeds, Works}
use Rattle.program_promise.specs.Parts.{only_calls, StoppedIn, WentThrough}
use Rattle.program_promise.specs.Holds.{after_entries}
use Rattle.program_promise.proofs.GainLemmas.{broke_after}
use Rattle.program_promise.proofs.PartLemmas.{stopped_more, through_then}
use Rattle.ddrescue_words.specs.Command.{Command}
use Rattle.mapfile_resume.proofs.NamedLemmas.{map_is_one}
use Rattle.task_files.specs.declared.ending.Which.{Which}
use Rattle.task_files.specs.declared.ending.Which.TheVariants.{DomainMap, TestMap}
use Rattle.task_files.specs.declared.ending.Ending.{Ending}
use Rattle.task_files.specs.Asked.{Maps, setting_of}
use Rattle.task_files.specs.Maps.{Found, IsNamedMap, found_in, mapfile_of}
use Rattle.task_files.specs.Work.{Rescues, rescue_faults, map_rows, opened_rows}
use Rattle.task_files.specs.Steps.{HasTiles, ReadsMap, IsOnlyMaps, maps_of, DidAfterMaps, Worked}
use Rattle.task_files.proofs.OpenedLemmas.{none_seen}
use Rattle.rescue_rules.specs.Across.{across}
use Rattle.task_files.proofs.MapsLemmas.{MapsOf, maps_for}
use Rattle.program_promise.proofs.FrontLemmas.{IsMapRead, load_reads, broke_in_both, made_both}
use Rattle.program_promise.proofs.ReadLemmas.{AllReads, files_stand}

-- ---- reads of maps alone

-- calls that read maps, the last of which may have failed
abbrev pub EndsReads : List Call → List Entry → Type 0
EndsReads maps calls = (calls ≡ map Returned maps) ⊎ BrokeAt MapRead maps [] calls

pub record AreReads (calls : List Entry) : Type 0 where
  pub maps : List Call
  pub are : AreMapReads maps
  pub ends : EndsReads maps calls

pub reads_through : (which : Which) (mode : Mode) (name : Option (List ℕ)) (file : Option File) (calls : List Entry)
    → WentThrough (map_rows which mode name file) calls → AllReads calls
reads_through which mode None file calls t = record { maps = []; are = All-nil IsMapRead; all = t.1.1 }
reads_through which mode (Some name) file calls t = record {
  maps = t.0;
  are = load_reads name file t.0 t.2.begins;
  all = t.3 ∙ ap (λ r. map Returned t.0 ++ r) t.4.1 ∙ append-nil (map Returned t.0);
}

pub reads_stopped : (which : Which) (mode : Mode) (name : Option (List ℕ)) (file : Option File) (e : Ending) (calls : List Entry)
    → StoppedIn rescue_faults (map_rows which mode name file) e calls → AreReads calls
reads_stopped which mode None file e calls (inl (is, idle)) =
    record { maps = []; are = All-nil IsMapRead; ends = inl idle.gain.calls }
reads_stopped which mode None file e calls (inr (none, inl (refused, idle))) =
    record { maps = []; are = All-nil IsMapRead; ends = inl idle.gain.calls }
reads_stopped which mode None file e calls (inr (none, inr (passed, h))) = absurd h
reads_stopped which mode (Some name) file e calls (inl (load, is, begins, broke, only)) =
    record { maps = load; are = load_reads name file load begins; ends = inr broke }
reads_stopped which mode (Some name) file e calls (inr (inl (load, is, begins, all, only))) =
    record { maps = load; are = load_reads name file load begins; ends = inl all }
reads_stopped which mode (Some name) file e calls (inr (inr (load, rest, loaded, is, inl (refused, idle)))) = record {
  maps = load;
  are = load_reads name file load loaded.begins;
  ends = inl (is ∙ ap (λ r. map Returned load ++ r) idle.gain.calls ∙ append-nil (map Returned load));
}
reads_stopped which mode (Some name) file e calls (inr (inr (load, rest, loaded, is, inr (passed, h)))) = absurd h

-- after others
ends_after : (front maps : List Call) (calls : List Entry) → EndsReads maps calls
    → EndsReads (front ++ maps) (map Returned front ++ calls)
ends_after front maps calls (inl all) =
    inl (ap (λ (r : List Entry). map Returned front ++ r) (all ∙ sym (append-nil (map Returned maps)))
    ∙ made_both front maps [] ∙ append-nil (map Returned (front ++ maps)))
ends_after front maps calls (inr broke) =
    inr (broke_in_both MapRead front maps [] (map Returned front ++ calls)
    (subst (λ (r : List Entry). BrokeAt MapRead maps r (map Returned front ++ calls)) (append-nil (map Returned front))
    (broke_after MapRead maps (map Returned front) [] calls broke)))

pub reads_after : (front calls : List Entry) → AllReads front → AreReads calls → AreReads (front ++ calls)
reads_after front calls f r = record {
  maps = f.maps ++ r.maps;
  are = All-append IsMapRead f.maps r.maps f.are r.are;
  ends = subst (λ (xs : List Entry). EndsReads (f.maps ++ r.maps) (xs ++ calls)) (sym f.all)
      (ends_after f.maps r.maps calls r.ends);
}

pub only_maps : (g : Gain) → AreReads g.calls → g.reads ≡ [] → g.times ≡ [] → IsOnlyMaps g
only_maps g r reads times = record { maps = r.maps; are = r.are; calls = r.ends; reads = reads; times = times }

-- ---- the work

-- the read of a map stood in this mode
abbrev pub mode_by : Command → Mode
mode_by c = map_mode c.options.loose

-- nothing but calls was gained, of which all read maps
worked_reads : (c : Command) (line : List ℕ) (heard : Bool) (e : Ending) (source : SourceState) (old new : SiteState)
    (clock : ClockState) (x : ConsoleState) (found : Found) (calls : List Entry) → (IsTrue old.tells → found ≡ found_in c (files_in old))
    → (IsTrue old.tells → new.calls ≡ old.calls ++ calls) → AreReads calls
    → ((run : Ending → Deeds → Type 0) → Works rescue_faults (map_rows DomainMap (mode_by c) c.domain_map found.domain
    ++ map_rows TestMap (mode_by c) c.test_map found.test ++ opened_rows c found (length source.bytes)) run e (only_calls calls))
    → Worked c line heard heard e (across source source old new clock clock x x)
worked_reads c line heard e source old new clock x found calls own grew reads works =
    let m : MapsOf c found = maps_for c found in
    record {
      outside = record {
        found = found;
        end = length source.bytes;
        maps = m.maps;
        did = only_calls calls;
        lines = [];
      };
      agrees = record {
        opens = refl;
        found = own;
        calls = grew;
        end = λ tell. refl;
        reads = λ tell. record {
          raw = [];
          journal = sym (append-nil source.journal);
          seen_are = none_seen m.maps.test;
          right = All-nil (IsFrom source.bytes);
        };
        times = λ tell. sym (append-nil clock.readings);
      };
      asked_maps = m.asked;
      are_maps = m.are;
      works = works (Rescues (setting_of c line (length source.bytes) m.maps) found.mapfile []);
      silent = λ none. refl;
      says = says_none heard x;
      fit = All-nil (λ t. t < 2 ^ 64);
      short = inl (only_maps (only_calls calls).gain reads refl refl);
    }

-- it stopped in the first read,
pub worked_domain : (c : Command) (line : List ℕ) (heard : Bool) (e : Ending) (source : SourceState) (old new : SiteState)
    (clock : ClockState) (x : ConsoleState) → ReadsMap DomainMap (mode_by c) c.domain_map (Err e) old new
    → Worked c line heard heard e (across source source old new clock clock x x)
worked_domain c line heard e source old new clock x r =
    let found : Found = record (found_in c (files_in old)) { domain = r.file } in
    worked_reads c line heard e source old new clock x found r.calls
    (λ t. ap (λ (f : Option File). record (found_in c (files_in old)) { domain = f }) (r.is_own t)) r.gained
    (reads_stopped DomainMap (mode_by c) c.domain_map r.file e r.calls r.did)
    (λ run. stopped_more rescue_faults (map_rows DomainMap (mode_by c) c.domain_map r.file)
    (map_rows TestMap (mode_by c) c.test_map found.test ++ opened_rows c found (length source.bytes)) run e
    (only_calls r.calls) r.did)

-- calls one after another
grew_both : (d0 d1 d2 o l : List Entry) → d1 ≡ d0 ++ o → d2 ≡ d1 ++ l → d2 ≡ d0 ++ (o ++ l)
grew_both d0 d1 d2 o l first second = second ∙ ap (λ r. r ++ l) first ∙ append_assoc d0 o l

-- after a read that went well the files are as they were
pub stands_after : (which : Which) (mode : Mode) (name : Option (List ℕ)) (tiles : Option Tiled) (old new : SiteState)
    → (f : ReadsMap which mode name (Ok tiles) old new) → Stays old new → IsTrue old.tells → files_in new ≡ files_in old
stands_after which mode name tiles old new f stays t =
    files_stand f.calls old new (reads_through which mode name f.file f.calls f.did.1) (stays.keeps.start t) (f.gained t)

-- or in the second,
pub worked_test : (c : Command) (line : List ℕ) (domain : Option Tiled) (heard : Bool) (e : Ending) (source : SourceState)
    (old mid new : SiteState) (clock : ClockState) (x : ConsoleState) → ReadsMap DomainMap (mode_by c) c.domain_map (Ok domain) old mid
    → Stays old mid → ReadsMap TestMap (mode_by c) c.test_map (Err e) mid new
    → Worked c line heard heard e (across source source old new clock clock x x)
worked_test c line domain heard e source old mid new clock x f stays r =
    let found : Found = record (found_in c (files_in old)) { domain = f.file; test = r.file } in
    let own : IsTrue old.tells → r.file ≡ file_named c.test_map (files_in old) =
    λ t. r.is_own (rw stays.keeps.tells t)
    ∙ ap (file_named c.test_map) (stands_after DomainMap (mode_by c) c.domain_map domain old mid f stays t) in
    worked_reads c line heard e source old new clock x found (f.calls ++ r.calls)
    (λ t. ap (λ (g : Option File). record (found_in c (files_in old)) { domain = g; test = r.file }) (f.is_own t)
    ∙ ap (λ (g : Option File). record (found_in c (files_in old)) { test = g }) (own t))
    (λ t. grew_both old.calls mid.calls new.calls f.calls r.calls (f.gained t) (r.gained (rw stays.keeps.tells t)))
    (reads_after f.calls r.calls (reads_through DomainMap (mode_by c) c.domain_map f.file f.calls f.did.1)
    (reads_stopped TestMap (mode_by c) c.test_map r.file e r.calls r.did))
    (λ run. through_then rescue_faults (map_rows DomainMap (mode_by c) c.domain_map f.file)
    (map_rows TestMap (mode_by c) c.test_map r.file ++ opened_rows c found (length source.bytes)) run e f.calls
    (only_calls r.calls) f.did.1
    (stopped_more rescue_faults (map_rows TestMap (mode_by c) c.test_map r.file)
    (opened_rows c found (length source.bytes)) run e (only_calls r.calls) r.did))

-- or it went on after both.
pub named_map : (name : Option (List ℕ)) (mode : Mode) (tiles : Option Tiled) (file : Option File) → HasTiles name mode tiles file
    → IsNamedMap name mode file (statuses_in tiles)
named_map None mode tiles file has = λ statuses named is. absurd (cc)
named_map (Some name) mode None file has = absurd has
named_map (Some name) mode (Some tiles) file has =
    λ statuses named is. ap (λ (s : List Status). Some s) (map_is_one file mode tiles.statuses statuses has is)

pub unasked : (name : Option (List ℕ)) (mode : Mode) (tiles : Option Tiled) (file : Option File) → HasTiles name mode tiles file
    → name ≡ None → statuses_in tiles ≡ None
unasked None mode tiles file has none = has
unasked (Some name) mode tiles file has none = absurd (cc)

pub found_is : (f g : Found) → f.domain ≡ g.domain → f.test ≡ g.test → f.output ≡ g.output → f.mapfile ≡ g.mapfile → f ≡ g
found_is f g domain test output mapfile =
    ap (λ (x : Option File). record f { domain = x }) domain
    ∙ ap (λ (x : Option File). record f { domain = g.domain; test = x }) test
    ∙ ap (λ (x : Option File). record g { output = x; mapfile = f.mapfile }) output
    ∙ ap (λ (x : Option File). record g { mapfile = x }) mapfile

short_after : (g : Gain) (end : ℕ) (first second : List Entry) → AllReads first → AllReads second
    → IsNothing g ⊎ (end < 2 ^ 63) → IsOnlyMaps (record g { calls = first ++ (second ++ g.calls) }) ⊎ (end < 2 ^ 63)
short_after g end first second f h (inl none) =
    inl (only_maps (record g { calls = first ++ (second ++ g.calls) })
    (reads_after first (second ++ g.calls) f
    (reads_after second g.calls h (record { maps = []; are = All-nil IsMapRead; ends = inl none.calls })))
    none.reads none.times)
short_after g end first second f h (inr short) = inr short

pub worked_after : (c : Command) (line : List ℕ) (domain test : Option Tiled) (heard heard' : Bool) (e : Ending)
    (s0 s1 : SourceState) (old mid new last : SiteState) (k k' : ClockState) (x x' : ConsoleState)
    → ReadsMap DomainMap (mode_by c) c.domain_map (Ok domain) old mid → Stays old mid
    → ReadsMap TestMap (mode_by c) c.test_map (Ok test) mid new → Stays mid new
    → DidAfterMaps c line (statuses_in domain) (statuses_in test) heard heard' e (across s0 s1 new last k k' x x')
    → Worked c line heard heard' e (across s0 s1 old last k k' x x')
worked_after c line domain test heard heard' e s0 s1 old mid new last k k' x x' f stays h stays' o =
    let found : Found = record o.found { domain = f.file; test = h.file } in
    let maps : Maps = maps_of (statuses_in domain) (statuses_in test) o.listed in
    let run : Ending → Deeds → Type 0 = Rescues (setting_of c line o.end maps) o.found.mapfile o.lines in
    let first : AllReads f.calls = reads_through DomainMap (mode_by c) c.domain_map f.file f.calls f.did.1 in
    let second : AllReads h.calls = reads_through TestMap (mode_by c) c.test_map h.file h.calls h.did.1 in
    let told : IsTrue old.tells → IsTrue mid.tells = λ t. rw stays.keeps.tells t in
    let told' : IsTrue old.tells → IsTrue new.tells = λ t. rw stays'.keeps.tells (told t) in
    let stand : IsTrue old.tells → files_in mid ≡ files_in old =
    stands_after DomainMap (mode_by c) c.domain_map domain old mid f stays in
    let stand' : IsTrue old.tells → files_in new ≡ files_in old =
    λ t. stands_after TestMap (mode_by c) c.test_map test mid new h stays' (told t) ∙ stand t in
    record {
      outside = record {
        found = found;
        end = o.end;
        maps = maps;
        did = after_entries f.calls (after_entries h.calls o.did);
        lines = o.lines;
      };
      agrees = record {
        opens = o.opens;
        found = λ t. found_is found (found_in c (files_in old)) (f.is_own t)
            (h.is_own (told t) ∙ ap (file_named c.test_map) (stand t))
            (o.output (told' t) ∙ ap (λ (fs : List ℕ → Option File). fs c.outfile) (stand' t))
            (o.mapfile (told' t) ∙ ap (mapfile_of c) (stand' t));
        calls = λ t. o.gains.calls (told' t)
            ∙ ap (λ r. r ++ o.did.gain.calls) (h.gained (told t)) ∙ append_assoc mid.calls h.calls o.did.gain.calls
            ∙ ap (λ r. r ++ (h.calls ++ o.did.gain.calls)) (f.gained t)
            ∙ append_assoc old.calls f.calls (h.calls ++ o.did.gain.calls);
        end = o.own_end;
        reads = o.gains.reads;
        times = o.gains.times;
      };
      asked_maps = record {
        domain = unasked c.domain_map (mode_by c) domain f.file f.did.0;
        test = unasked c.test_map (mode_by c) test h.file h.did.0;
        whole = o.whole;
      };
      are_maps = record {
        domain = named_map c.domain_map (mode_by c) domain f.file f.did.0;
        test = named_map c.test_map (mode_by c) test h.file h.did.0;
        listed = o.lists;
      };
      works = through_then rescue_faults (map_rows DomainMap (mode_by c) c.domain_map f.file)
          (map_rows TestMap (mode_by c) c.test_map h.file ++ opened_rows c found o.end) run e f.calls
          (after_entries h.calls o.did) f.did.1
          (through_then rescue_faults (map_rows TestMap (mode_by c) c.test_map h.file) (opened_rows c found o.end) run e
          h.calls o.did h.did.1 o.works);
      silent = o.silent;
      says = o.says;
      fit = o.gains.fit;
      short = short_after o.did.gain o.end f.calls h.calls first second o.short;
    }
