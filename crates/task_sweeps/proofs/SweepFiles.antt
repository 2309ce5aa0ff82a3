-- What was there and what was done after the map that an option names, by where a sweep's steps ended.
use Rattle.rescue_rules.specs.Across.{across}
use Rattle.std.proofs.Common.{◌≡◌, ℕ, ◌-◌, ◌<◌, ◌^◌, Bool, IsTrue, List, [], ◌∷◌, ◌++◌, length, replicate, All, Option, None, Ok, Err, refl, sym, ap, ◌∙◌, inl, inr, subst, arith, append_assoc, append-nil}
use Rattle.std.proofs.lemmas.List.Elements.{All-nil}
use Rattle.block_list.specs.declared.status.Status.{Status}
use Rattle.block_list.specs.declared.status.Status.TheVariants.{NonTried}
use Rattle.mapfile_text.specs.declared.state.MapState.{MapState}
use Rattle.mapfile_text.specs.declared.read.Mode.TheVariants.{Tight}
use Rattle.mapfile_text.specs.MapText.{IsMapText, Blank}
use Rattle.mapfile_text.proofs.OneReading.{has_one_reading}
use Rattle.faulty_source.specs.Journal.{Reading, IsFrom}
use Rattle.faulty_source.specs.SourceState.{SourceState}
use Rattle.faulty_source.specs.SourceChanges.{Stays as SourceStays}
use Rattle.crash_site.specs.Files.{File}
use Rattle.crash_site.specs.Calls.{Entry}
use Rattle.crash_site.specs.SiteState.{SiteState, files_in}
use Rattle.mapfile_save.specs.MapNames.{MapNames}
use Rattle.mapfile_text.proofs.MapLemmas.{map_is_not_blank}
use Rattle.rescue_console.specs.ClockState.{ClockState}
use Rattle.rescue_console.specs.ConsoleState.{ConsoleState}
use Rattle.rescue_rules.specs.Start.{IsFresh, TextStands, AsNone, AsMap, StandsFor, Stands}
use Rattle.rescue_rules.specs.Laws.{AreTimes}
use Rattle.program_promise.specs.Work.{Opened, Unopened, Deeds}
use Rattle.ddrescue_words.specs.Command.{Command}
use Rattle.program_promise.proofs.PartLemmas.{grew_both}
use Rattle.task_files.specs.declared.ending.Ending.{Ending}
use Rattle.task_files.specs.declared.load.LoadedMap.{LoadedMap}
use Rattle.task_files.specs.Maps.{NoFile, NoText, Blocks, mapfile_of}
use Rattle.task_files.specs.Findings.{HasGainedReads}
use Rattle.task_files.specs.Steps.{OpensOutput, Loads}
use Rattle.task_sweeps.specs.Modes.{IsMapEnd}
use Rattle.task_files.proofs.ListingLemmas.{Listing, OneListing, listed_if, one_listing, own_listing, some_listing}
use Rattle.task_files.proofs.OpenedLemmas.{HasInput, HasLoaded, IsNotOpen, IsOpen, own_loads, own_mapfile}
use Rattle.task_sweeps.proofs.SweepOutside.{AfterMap}

-- ---- the input

-- it was opened, and these reads of it were made
pub record HasRead (infile : List ℕ) (end : ℕ) (reads : List Reading) (s0 s1 : SourceState) : Type 0 where
  pub opened : IsOpen infile s0 s1
  pub gained : IsTrue s0.tells → HasGainedReads None s0 s1 reads
  pub all : IsTrue s0.tells → end ≡ length s0.bytes
  pub short : end < 2 ^ 63

pub none_read : (infile : List ℕ) (end : ℕ) (s0 s1 : SourceState) → HasInput infile end s0 s1 → HasRead infile end [] s0 s1
none_read infile end s0 s1 h = record {
  opened = h.opened;
  gained = λ t. record {
    raw = [];
    journal = h.same t ∙ sym (append-nil s0.journal);
    seen_are = refl;
    right = All-nil (IsFrom s0.bytes);
  };
  all = h.all;
  short = h.short;
}

pub then_read : (infile : List ℕ) (end : ℕ) (reads : List Reading) (s0 s1 s2 : SourceState) → HasInput infile end s0 s1
    → SourceStays s1 s2 → (IsTrue s1.tells → HasGainedReads None s1 s2 reads) → HasRead infile end reads s0 s2
then_read infile end reads s0 s1 s2 h stays gained = record {
  opened = (stays.opens ∙ h.opened.0, λ t. stays.name (rw h.tells t) ∙ h.opened.1 t);
  gained = λ t.
      let g : HasGainedReads None s1 s2 reads = gained (rw h.tells t) in
      record {
        raw = g.raw;
        journal = g.journal ∙ ap (λ (j : List Reading). j ++ g.raw) (h.same t);
        seen_are = g.seen_are;
        right = subst (λ (bytes : List ℕ). All (IsFrom bytes) reads) (h.bytes t) g.right;
      };
  all = h.all;
  short = h.short;
}

-- ---- how far a mapfile's map reaches

map_ends : (text : List ℕ) (statuses : List Status) (state : Option MapState) (shown : MapState) (first : ℕ)
    (listed : Bool) (own : List Status) → TextStands text 0 statuses state
    → IsMapText text Tight shown first listed own → length own ≡ length statuses
map_ends text statuses state shown first listed own (AsNone blank fresh) reads =
    absurd (map_is_not_blank text Tight shown first listed own reads blank)
map_ends text statuses state shown first listed own (AsMap r) reads =
    let same = has_one_reading text Tight shown r.shown first r.first listed r.listed own r.statuses reads r.reads in
    let none : 0 ≡ 0 - length r.statuses = omega arith in
    ap length (same.statuses_is ∙ sym (append-nil r.statuses) ∙ ap (λ (k : ℕ). r.statuses ++ replicate k NonTried) none
    ∙ sym r.map_is)

blank_ends : (text : List ℕ) (statuses : List Status) (state : Option MapState) → TextStands text 0 statuses state
    → Blank text → 0 ≡ length statuses
blank_ends text statuses state (AsNone blank fresh) says = sym (ap length fresh.map_is)
blank_ends text statuses state (AsMap r) says =
    absurd (map_is_not_blank text Tight r.shown r.first r.listed r.statuses r.reads says)

-- the map that it stands for with no end has its length
pub own_end : (file : Option File) (statuses : List Status) (state : Option MapState) → Stands file 0 statuses state
    → IsMapEnd file (length statuses)
own_end file statuses state stands first end (NoFile none first_is end_is) =
    let fresh : IsFresh 0 statuses state = subst (λ (f : Option File). StandsFor f 0 statuses state) none stands.stands in
    end_is ∙ sym (ap length fresh.map_is)
own_end file statuses state stands first end (NoText there is blank first_is end_is) =
    end_is ∙ blank_ends there.bytes statuses state
    (subst (λ (f : Option File). StandsFor f 0 statuses state) is stands.stands) blank
own_end file statuses state stands first end (Blocks there is within shown listed own reads end_is) =
    end_is ∙ map_ends there.bytes statuses state shown first listed own
    (subst (λ (f : Option File). StandsFor f 0 statuses state) is stands.stands) reads

-- each has one
pub some_end : (file : Option File) → (top : ℕ) × IsMapEnd file top
some_end file =
    let one : OneListing file = one_listing file in
    (one.end, λ first end lists. (one.only first end lists).end_is)

-- ---- where the steps ended

-- what was done after the open of the input
abbrev pub deeds_with : (infile : List ℕ) → List Entry → List Reading → (times : List ℕ) → Deeds
deeds_with infile calls reads times =
    record { opens = Opened infile ∷ []; gain = record { calls = calls; reads = reads; times = times } }

-- the input couldn't be opened
abbrev pub after_unopened : (c : Command) (s0 s1 : SourceState) (d : SiteState) (k : ClockState) (x : ConsoleState)
    → (IsTrue s0.tells → s1.journal ≡ s0.journal) → IsNotOpen c.infile s0 s1 → AfterMap c (across s0 s1 d d k k x x)
after_unopened c s0 s1 d k x same opens =
    let some : (listed : Option (ℕ × ℕ)) × Listing c (mapfile_of c (files_in d)) listed =
    some_listing c (mapfile_of c (files_in d)) in
    record {
      output = files_in d c.outfile;
      mapfile = mapfile_of c (files_in d);
      own_output = λ t. refl;
      own_mapfile = λ t. refl;
      end = length s0.bytes;
      own_end = λ t. refl;
      listed = some.0;
      listing = some.1;
      did = record { opens = Unopened c.infile ∷ []; gain = record { calls = []; reads = []; times = [] } };
      opens = opens;
      gains = record {
        calls = λ t. sym (append-nil d.calls);
        reads = λ t. record {
          raw = [];
          journal = same t ∙ sym (append-nil s0.journal);
          seen_are = refl;
          right = All-nil (IsFrom s0.bytes);
        };
        times = λ t. sym (append-nil k.readings);
        fit = All-nil (λ t. t < 2 ^ 64);
      };
      short = inl (record { calls = refl; reads = refl; times = refl });
      lines = [];
    }

module _ (c : Command) (end : ℕ) (reads : List Reading) (s0 s1 : SourceState) (k : ClockState) (x : ConsoleState)
    (input : HasRead c.infile end reads s0 s1) where
  -- the steps ended in front of the output
  abbrev pub after_input : (d : SiteState) → AfterMap c (across s0 s1 d d k k x x)
  after_input d =
      let some : (listed : Option (ℕ × ℕ)) × Listing c (mapfile_of c (files_in d)) listed =
      some_listing c (mapfile_of c (files_in d)) in
      record {
        output = files_in d c.outfile;
        mapfile = mapfile_of c (files_in d);
        own_output = λ t. refl;
        own_mapfile = λ t. refl;
        end = end;
        own_end = input.all;
        listed = some.0;
        listing = some.1;
        did = deeds_with c.infile [] reads [];
        opens = input.opened;
        gains = record {
          calls = λ t. sym (append-nil d.calls);
          reads = input.gained;
          times = λ t. sym (append-nil k.readings);
          fit = All-nil (λ t. t < 2 ^ 64);
        };
        short = inr input.short;
        lines = [];
      }

  -- at its open
  abbrev pub after_output : (makes : Bool) (e : Ending) (d0 d1 : SiteState)
      → OpensOutput {T = Unit {0}} makes c.options.forced c.outfile (Err e) d0 d1
      → AfterMap c (across s0 s1 d0 d1 k k x x)
  after_output makes e d0 d1 o =
      let some : (listed : Option (ℕ × ℕ)) × Listing c (mapfile_of c (files_in d0)) listed =
      some_listing c (mapfile_of c (files_in d0)) in
      record {
        output = o.file;
        mapfile = mapfile_of c (files_in d0);
        own_output = o.is_own;
        own_mapfile = λ t. refl;
        end = end;
        own_end = input.all;
        listed = some.0;
        listing = some.1;
        did = deeds_with c.infile o.calls reads [];
        opens = input.opened;
        gains = record {
          calls = o.gained;
          reads = input.gained;
          times = λ t. sym (append-nil k.readings);
          fit = All-nil (λ t. t < 2 ^ 64);
        };
        short = inr input.short;
        lines = [];
      }

  -- at the load of the mapfile
  abbrev pub after_load : (makes : Bool) (n : Option MapNames) (limit : ℕ) (e : Ending) (d0 d1 d2 : SiteState)
      → HasLoaded makes c n limit (Err e) d0 d1 d2 → AfterMap c (across s0 s1 d0 d2 k k x x)
  after_load makes n limit e d0 d1 d2 h =
      let p : Loads c.mapfile limit (Err e) d1 d2 = own_loads makes c n limit (Err e) d0 d1 d2 h in
      let some : (listed : Option (ℕ × ℕ)) × Listing c p.file listed = some_listing c p.file in
      record {
        output = h.output.file;
        mapfile = p.file;
        own_output = h.output.is_own;
        own_mapfile = own_mapfile makes c n limit (Err e) d0 d1 d2 h p.file p.is_own;
        end = end;
        own_end = input.all;
        listed = some.0;
        listing = some.1;
        did = deeds_with c.infile (h.output.calls ++ p.calls) reads [];
        opens = input.opened;
        gains = record {
          calls = λ t. p.gained (rw h.keeps.tells t) ∙ ap (λ (r : List Entry). r ++ p.calls) (h.output.gained t)
              ∙ append_assoc d0.calls h.output.calls p.calls;
          reads = input.gained;
          times = λ t. sym (append-nil k.readings);
          fit = All-nil (λ t. t < 2 ^ 64);
        };
        short = inr input.short;
        lines = [];
      }

  -- after it, with these calls and readings, and these lines
  abbrev pub after_files : (makes : Bool) (n : Option MapNames) (limit : ℕ) (start : LoadedMap) (d0 d1 d2 d3 : SiteState)
      (k' : ClockState) (x' : ConsoleState) (calls : List Entry) (times : List ℕ) (lines : List (List ℕ))
      → HasLoaded makes c n limit (Ok start) d0 d1 d2 → d2.tells ≡ d0.tells
      → (IsTrue d2.tells → d3.calls ≡ d2.calls ++ calls)
      → (IsTrue k'.tells → k'.readings ≡ k.readings ++ times) → AreTimes times
      → AfterMap c (across s0 s1 d0 d3 k k' x x')
  after_files makes n limit start d0 d1 d2 d3 k' x' calls times lines h told grew timed fit =
      let p : Loads c.mapfile limit (Ok start) d1 d2 = own_loads makes c n limit (Ok start) d0 d1 d2 h in
      record {
        output = h.output.file;
        mapfile = p.file;
        own_output = h.output.is_own;
        own_mapfile = own_mapfile makes c n limit (Ok start) d0 d1 d2 h p.file p.is_own;
        end = end;
        own_end = input.all;
        listed = listed_if c.options.complete_only start.first start.listed_end;
        listing = own_listing c p.file start.first start.listed_end p.did.0.lists;
        did = deeds_with c.infile (h.output.calls ++ (p.calls ++ calls)) reads times;
        opens = input.opened;
        gains = record {
          calls = λ t. grew (rw told t)
              ∙ grew_both d0.calls d1.calls d2.calls calls h.output.calls p.calls (h.output.gained t)
              (p.gained (rw h.keeps.tells t));
          reads = input.gained;
          times = timed;
          fit = fit;
        };
        short = inr input.short;
        lines = lines;
      }
