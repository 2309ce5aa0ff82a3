-- What was outside of a sweep: after the map that an option names, or where the read of that map stopped.
use Rattle.std.proofs.Common.{◌≡◌, ◌⊎◌, ℕ, ◌<◌, ◌^◌, IsTrue, List, [], ◌++◌, length, Option, None, Ok, Err, refl, sym, ap, ◌∙◌, inl, inr, append_assoc, append-nil}
use Rattle.std.proofs.lemmas.List.Elements.{All-nil}
use Rattle.block_list.specs.Tiled.{Tiled, statuses_in}
use Rattle.faulty_source.specs.SourceState.{SourceState}
use Rattle.crash_site.specs.Files.{File, file_named}
use Rattle.crash_site.specs.Calls.{Entry}
use Rattle.crash_site.specs.SiteState.{SiteState, files_in}
use Rattle.crash_site.specs.SiteChanges.{Stays}
use Rattle.rescue_console.specs.ClockState.{ClockState}
use Rattle.rescue_console.specs.ConsoleState.{ConsoleState}
use Rattle.rescue_rules.specs.Work.{IsNothing}
use Rattle.rescue_rules.specs.Across.{Across, across}
use Rattle.faulty_source.specs.Journal.{IsFrom}
use Rattle.program_promise.specs.Work.{Deeds, WorkStep, Works}
use Rattle.program_promise.specs.Parts.{only_calls}
use Rattle.program_promise.specs.Holds.{after_entries}
use Rattle.program_promise.proofs.FrontLemmas.{IsMapRead}
use Rattle.program_promise.proofs.PartLemmas.{stopped_more, through_then}
use Rattle.ddrescue_words.specs.Command.{Command}
use Rattle.task_files.specs.declared.ending.Which.TheVariants.{DomainMap}
use Rattle.task_files.specs.declared.ending.Ending.{Ending}
use Rattle.task_files.specs.Names.{first_same_with_optional_map}
use Rattle.task_files.specs.Asked.{names_by}
use Rattle.task_files.specs.Maps.{Found, found_in, mapfile_of}
use Rattle.task_files.specs.Findings.{Findings}
use Rattle.program_promise.specs.Opens.{AreOpens}
use Rattle.task_files.specs.Work.{rescue_faults, map_rows}
use Rattle.task_files.specs.Steps.{Gains, IsOnlyMaps, ReadsMap, maps_of}
use Rattle.task_sweeps.specs.Modes.{named_rows}
use Rattle.task_sweeps.specs.SweepSteps.{IsOutside}
use Rattle.task_files.proofs.ApartLemmas.{names_pass}
use Rattle.task_files.proofs.ListingLemmas.{Listing}
use Rattle.task_sweeps.proofs.SweepMaps.{MapsOfSweep, sweep_maps_for}
use Rattle.task_files.proofs.OpenedLemmas.{none_seen}
use Rattle.task_files.proofs.WorkedLemmas.{found_is, mode_by, named_map, only_maps, reads_after, reads_stopped, reads_through, stands_after, unasked}

-- What was there and what was done after the map that an option names; if the input's length isn't known nothing was

-- done but its open.
pub record AfterMap (c : Command) (o : Across) : Type 0 where
  pub output : Option File
  pub mapfile : Option File
  pub own_output : IsTrue o.site.tells → output ≡ files_in o.site c.outfile
  pub own_mapfile : IsTrue o.site.tells → mapfile ≡ mapfile_of c (files_in o.site)
  pub end : ℕ
  pub own_end : IsTrue o.source.tells → end ≡ length o.source.bytes
  pub listed : Option (ℕ × ℕ)
  pub listing : Listing c mapfile listed
  pub did : Deeds
  pub opens : AreOpens did.opens o.source o.source'
  pub gains : Gains None o did.gain
  pub short : IsNothing did.gain ⊎ (end < 2 ^ 63)
  pub lines : List (List ℕ)

-- ---- the map was read

module _ (c : Command) (domain : Option Tiled) (s0 s1 : SourceState) (old mid last : SiteState) (k k' : ClockState)
    (x x' : ConsoleState) (f : ReadsMap DomainMap (mode_by c) c.domain_map (Ok domain) old mid) (stays : Stays old mid)
    (b : AfterMap c (across s0 s1 mid last k k' x x')) where
  abbrev pub outside_after : Findings
  outside_after = record {
    found = record {
      domain = f.file;
      test = file_named c.test_map (files_in old);
      output = b.output;
      mapfile = b.mapfile;
    };
    end = b.end;
    maps = maps_of (statuses_in domain) None b.listed;
    did = after_entries f.calls b.did;
    lines = b.lines;
  }

  pub is_outside : IsOutside c (across s0 s1 old last k k' x x') outside_after
  is_outside =
      let told : IsTrue old.tells → IsTrue mid.tells = λ t. rw stays.keeps.tells t in
      let stand : IsTrue old.tells → files_in mid ≡ files_in old =
      stands_after DomainMap (mode_by c) c.domain_map domain old mid f stays in
      record {
        agrees = record {
          opens = b.opens;
          found = λ t. found_is outside_after.found (found_in c (files_in old)) (f.is_own t) refl
              (b.own_output (told t) ∙ ap (λ (fs : List ℕ → Option File). fs c.outfile) (stand t))
              (b.own_mapfile (told t) ∙ ap (mapfile_of c) (stand t));
          calls = λ t. b.gains.calls (told t) ∙ ap (λ (r : List Entry). r ++ b.did.gain.calls) (f.gained t)
              ∙ append_assoc old.calls f.calls b.did.gain.calls;
          end = b.own_end;
          reads = b.gains.reads;
          times = b.gains.times;
        };
        asked_maps = record {
          domain = unasked c.domain_map (mode_by c) domain f.file f.did.0;
          test = λ none. refl;
          whole = b.listing.whole;
        };
        are_maps = record {
          domain = named_map c.domain_map (mode_by c) domain f.file f.did.0;
          listed = b.listing.are;
          untested = refl;
        };
        fit = b.gains.fit;
      }

  -- the steps before what was done after it
  pub named_then : first_same_with_optional_map c.infile c.outfile (names_by c) ≡ None → (more : List (WorkStep Ending))
      (run : Ending → Deeds → Type 0) (e : Ending) → Works rescue_faults more run e b.did
      → Works rescue_faults (named_rows c outside_after.found ++ more) run e outside_after.did
  named_then different more run e w =
      inr (inr (
        names_pass c different,
        through_then rescue_faults (map_rows DomainMap (mode_by c) c.domain_map f.file) more run e f.calls b.did f.did.1 w,
      ))

  pub short_after : IsOnlyMaps outside_after.did.gain ⊎ (b.end < 2 ^ 63)
  short_after =
      elim b.short [
        | inl none ↦ inl (only_maps outside_after.did.gain
            (reads_after f.calls b.did.gain.calls (reads_through DomainMap (mode_by c) c.domain_map f.file f.calls f.did.1)
            (record { maps = []; are = All-nil IsMapRead; ends = inl none.calls })) none.reads none.times)
        | inr short ↦ inr short
      ]

-- ---- its read stopped

module _ (c : Command) (e : Ending) (source : SourceState) (old new : SiteState) (clock : ClockState) (x : ConsoleState)
    (r : ReadsMap DomainMap (mode_by c) c.domain_map (Err e) old new) where
  abbrev pub unread_found : Found
  unread_found = record (found_in c (files_in old)) { domain = r.file }

  abbrev pub unread_outside : Findings
  unread_outside = record {
    found = unread_found;
    end = length source.bytes;
    maps = (sweep_maps_for c unread_found).maps;
    did = only_calls r.calls;
    lines = [];
  }

  pub is_unread : IsOutside c (across source source old new clock clock x x) unread_outside
  is_unread =
      let m : MapsOfSweep c unread_found = sweep_maps_for c unread_found in
      record {
        agrees = record {
          opens = refl;
          found = λ t. ap (λ (f : Option File). record (found_in c (files_in old)) { domain = f }) (r.is_own t);
          calls = r.gained;
          end = λ tell. refl;
          reads = λ tell. record {
            raw = [];
            journal = sym (append-nil source.journal);
            seen_are = none_seen m.maps.test;
            right = All-nil (IsFrom source.bytes);
          };
          times = λ tell. sym (append-nil clock.readings);
        };
        asked_maps = m.asked;
        are_maps = m.are;
        fit = All-nil (λ t. t < 2 ^ 64);
      }

  pub named_stops : first_same_with_optional_map c.infile c.outfile (names_by c) ≡ None → (more : List (WorkStep Ending))
      (run : Ending → Deeds → Type 0)
      → Works rescue_faults (named_rows c unread_found ++ more) run e (only_calls r.calls)
  named_stops different more run =
      inr (inr (
        names_pass c different,
        stopped_more rescue_faults (map_rows DomainMap (mode_by c) c.domain_map r.file) more run e (only_calls r.calls) r.did,
      ))

  pub only_unread : IsOnlyMaps (only_calls r.calls).gain
  only_unread =
      only_maps (only_calls r.calls).gain (reads_stopped DomainMap (mode_by c) c.domain_map r.file e r.calls r.did) refl refl
