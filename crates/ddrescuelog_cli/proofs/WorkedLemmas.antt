-- What a whole command did, by what its steps did.
use Rattle.std.proofs.Common.{◌≡◌, ◌⊎◌, ℕ, Bool, true, false, IsTrue, List, [], ◌∷◌, ◌++◌, Ok, Err, refl, sym, ap, ◌∙◌, inl, inr, subst, append_assoc, append-nil}
use Rattle.crash_site.specs.Calls.{Entry}
use Rattle.crash_site.specs.SiteState.{SiteState, files_in}
use Rattle.crash_site.specs.SiteChanges.{Stays, Keeps as SiteKeeps}
use Rattle.rescue_console.specs.FeedState.{FeedState}
use Rattle.rescue_console.specs.ConsoleState.{ConsoleState}
use Rattle.mapfile_text.specs.HeadingLines.{HeadingLines}
use Rattle.program_promise.specs.Work.{IsOnlyCalls, Take}
use Rattle.program_promise.specs.World.{WorldState}
use Rattle.program_promise.specs.Program.{line_by}
use Rattle.program_promise.specs.Promise.{DoneFor}
use Rattle.ddrescuelog_words.specs.Modes.{creates, removes_map}
use Rattle.ddrescuelog_words.specs.Command.{Command}
use Rattle.mapfile_save.proofs.FillLemmas.{keeps_self}
use Rattle.ddrescuelog_cli.specs.declared.load.LoadedMaps.{LoadedMaps}
use Rattle.ddrescuelog_cli.specs.declared.ending.LogEnding.{LogEnding}
use Rattle.ddrescuelog_cli.specs.declared.ending.LogEnding.TheVariants.{NoMemory}
use Rattle.ddrescuelog_cli.specs.Modes.{prints, puts_pieces, text_of, log_faults}
use Rattle.ddrescuelog_cli.specs.Maps.{Found, Maps, found_in, AreMapsOf, AreAskedFor}
use Rattle.ddrescuelog_cli.specs.Outside.{Outside}
use Rattle.program_promise.specs.Parts.{only_calls}
use Rattle.ddrescuelog_cli.specs.Work.{read_rows, WorksOver, LogWorks, WorksAs}
use Rattle.ddrescuelog_cli.specs.Answers.{TakesFeed}
use Rattle.ddrescuelog_cli.specs.After.{FeedLeft, SiteLeft}
use Rattle.ddrescuelog_cli.specs.Creating.{CreatesMap}
use Rattle.ddrescuelog_cli.specs.Removing.{RemovesDone}
use Rattle.ddrescuelog_cli.specs.Printing.{PutsAs, PutsInPieces}
use Rattle.ddrescuelog_cli.specs.Stops.{OnlyReads, LeavesFiles, LeavesAll}
use Rattle.ddrescuelog_cli.specs.Steps.{ReadCause, LoadsMaps, IsLoadedAs, HasFound}
use Rattle.ddrescuelog_cli.specs.Worked.{FeedAfter, Ran}
use Rattle.ddrescuelog_cli.specs.Ddrescuelog.{LogWorked, handed, log_program}
use Rattle.program_promise.proofs.PartLemmas.{stopped_more, through_then}
use Rattle.program_promise.proofs.ReadLemmas.{AreReads}
use Rattle.ddrescuelog_cli.proofs.ReadLemmas.{files_stand}
use Rattle.ddrescuelog_cli.proofs.StandLemmas.{leave_all}
use Rattle.ddrescuelog_cli.proofs.StopsLemmas.{stops_safely, works_read}
use Rattle.ddrescuelog_cli.proofs.OtherLemmas.{others_stand}
use Rattle.ddrescuelog_cli.proofs.MapsLemmas.{MapsOf, maps_of}
use Rattle.ddrescuelog_cli.proofs.FitLemmas.{answers_fit}
use Rattle.ddrescuelog_cli.proofs.AfterLemmas.{causes_by, feed_keeps, feed_untaken, no_pieces_put, over_plain, plain_after, puts_nothing, read_pieces, read_puts}
use Rattle.ddrescuelog_cli.proofs.FindLemmas.{heading_of}

-- ---- nothing was done, for lack of memory

starved_works : (new : Bool) (c : Command) (line list : List ℕ) (found : Found) (m : Maps)
    → WorksAs new c line list found m NoMemory (only_calls [])
starved_works true c line list found m =
    inl (refl, record { opens = refl; gain = record { calls = refl; reads = refl; times = refl } })
starved_works false c line list found m =
    inl (refl, record { opens = refl; gain = record { calls = refl; reads = refl; times = refl } })

-- nothing but these calls was done
only : (calls : List Entry) → IsOnlyCalls (only_calls calls)
only calls = record { opens = refl; reads = refl; times = refl }

pub starved_ran : (c : Command) (line : List ℕ) (w : WorldState) → Ran c line NoMemory w w
starved_ran c line w =
    let found : Found = found_in c (files_in w.site) in
    let m : MapsOf c found = maps_of c found in
    record {
      outside = record { line = line; list = w.feed_.left; found = found; maps = m.maps };
      calls = [];
      named = refl;
      agrees = record {
        found = λ tells. refl;
        list = λ tells. refl;
        calls = λ tells. sym (append-nil w.site.calls);
        alone = only [];
        asked = m.asked;
        are = m.are;
      };
      work = starved_works (creates c.mode) c line w.feed_.left found m.maps;
      out = refl;
      pieces = λ on. refl;
    }

pub starved_after : (s : SiteState) → SiteLeft NoMemory s s
starved_after s = record {
  keeps = keeps_self s;
  image = refl;
  counts = refl;
  also = tt;
  draft = λ none. none;
}

pub starved_feed : (new : Bool) (f : FeedState) → FeedAfter new NoMemory f f
starved_feed true f = record { keeps = feed_keeps f; counts = refl; takes = λ tells. ([], refl) }
starved_feed false f = record { keeps = feed_keeps f; counts = refl; takes = refl }

-- ---- the maps were read, or the work stopped at one of them

-- the work of a mode that reads its mapfile
reading_works : (c : Command) (line list : List ℕ) (found : Found) (m : Maps) (e : LogEnding) (calls : List Entry)
    → creates c.mode ≡ false → WorksAs false c line list found m e (only_calls calls)
    → LogWorks c line list found m e (only_calls calls)
reading_works c line list found m e calls reads w =
    subst (λ (b : Bool). WorksAs b c line list found m e (only_calls calls)) (sym reads) w

pub load_stopped : (c : Command) (line : List ℕ) (e : LogEnding) (old new : SiteState) (feed : FeedState)
    (console : ConsoleState) → creates c.mode ≡ false → LoadsMaps c (Err e) old new
    → ReadCause e old.faults new.faults → Ran c line e (handed old feed console) (handed new feed console)
load_stopped c line e old new feed console reads l cause =
    let m : MapsOf c l.found = maps_of c l.found in
    record {
      outside = record { line = line; list = feed.left; found = l.found; maps = m.maps };
      calls = l.calls;
      named = refl;
      agrees = record {
        found = l.is_own;
        list = λ tells. refl;
        calls = l.gained;
        alone = only l.calls;
        asked = m.asked;
        are = m.are;
      };
      work = reading_works c line feed.left l.found m.maps e l.calls reads
          (stopped_more log_faults (Take ∷ read_rows c l.found) [] (WorksOver c line feed.left m.maps) e
          (only_calls l.calls) l.did);
      out = read_puts e old.faults new.faults (prints c.mode) (text_of c.mode c line m.maps) console cause;
      pieces = λ on. read_pieces e old.faults new.faults (text_of c.mode c line m.maps) console cause;
    }

-- what came after the maps
record Ended (c : Command) (line : List ℕ) (m : Maps) (e : LogEnding) (mid new : SiteState)
    (console between : ConsoleState) : Type 0 where
  calls : List Entry
  gained : IsTrue mid.tells → new.calls ≡ mid.calls ++ calls
  ends : (list : List ℕ) → WorksOver c line list m e (only_calls calls)
  out : PutsAs (prints c.mode) e (text_of c.mode c line m) console between
  pieces : puts_pieces c.mode ≡ true → PutsInPieces e (text_of c.mode c line m) console between

load_ended : (c : Command) (line : List ℕ) (l : LoadedMaps) (e : LogEnding) (old mid new : SiteState) (feed : FeedState)
    (console between : ConsoleState) → creates c.mode ≡ false → LoadsMaps c (Ok l) old mid → Stays old mid
    → ((m : Maps) → IsLoadedAs c m l → Ended c line m e mid new console between)
    → Ran c line e (handed old feed console) (handed new feed between)
load_ended c line l e old mid new feed console between reads loads stays ends =
    let m : Maps = loads.did.0 in
    let d : Ended c line m e mid new console between = ends m loads.did.3 in
    record {
      outside = record { line = line; list = feed.left; found = loads.found; maps = m };
      calls = loads.calls ++ d.calls;
      named = refl;
      agrees = record {
        found = loads.is_own;
        list = λ tells. refl;
        calls = λ tells.
            d.gained (subst IsTrue (sym stays.keeps.tells) tells)
            ∙ ap (λ (r : List Entry). r ++ d.calls) (loads.gained tells)
            ∙ append_assoc old.calls loads.calls d.calls;
        alone = only (loads.calls ++ d.calls);
        asked = loads.did.2;
        are = loads.did.1;
      };
      work = reading_works c line feed.left loads.found m e (loads.calls ++ d.calls) reads
          (through_then log_faults (Take ∷ read_rows c loads.found) [] (WorksOver c line feed.left m) e loads.calls
          (only_calls d.calls)
          loads.did.4 (d.ends feed.left));
      out = d.out;
      pieces = d.pieces;
    }

-- the mode changed no file
pub load_found : (c : Command) (line : List ℕ) (l : LoadedMaps) (h : HeadingLines) (e : LogEnding) (old new : SiteState)
    (feed : FeedState) (console between : ConsoleState) → creates c.mode ≡ false → LoadsMaps c (Ok l) old new
    → Stays old new → h ≡ heading_of line
    → ((m : Maps) → IsLoadedAs c m l → HasFound c h m e console between)
    → Ran c line e (handed old feed console) (handed new feed between)
load_found c line l h e old new feed console between reads loads stays heads finds =
    load_ended c line l e old new new feed console between reads loads stays
    (λ m is. record {
      calls = [];
      gained = λ tells. sym (append-nil new.calls);
      ends = (finds m is).ends line;
      out = (finds m is).out line heads;
      pieces = (finds m is).pieces line heads;
    })

pub found_after : (c : Command) (l : LoadedMaps) (h : HeadingLines) (e : LogEnding) (old new : SiteState)
    (console between : ConsoleState) → creates c.mode ≡ false → removes_map c.mode ≡ false
    → LoadsMaps c (Ok l) old new → Stays old new → new.faults ≡ old.faults
    → ((m : Maps) → IsLoadedAs c m l → HasFound c h m e console between) → SiteLeft e old new
found_after c l h e old new console between reads keeps loads stays kept finds =
    plain_after e old new
    (over_plain c [] [] loads.did.0 e (only_calls []) reads keeps ((finds loads.did.0 loads.did.3).ends [] []))
    stays kept

-- the mapfile was to be removed
pub load_removed : (c : Command) (line : List ℕ) (l : LoadedMaps) (e : LogEnding) (old mid new : SiteState)
    (feed : FeedState) (console : ConsoleState) → creates c.mode ≡ false → prints c.mode ≡ false
    → LoadsMaps c (Ok l) old mid → Stays old mid
    → ((m : Maps) → IsLoadedAs c m l → RemovesDone c m e mid new)
    → Ran c line e (handed old feed console) (handed new feed console)
load_removed c line l e old mid new feed console reads off loads stays removes =
    let m : Maps = loads.did.0 in
    let r : RemovesDone c m e mid new = removes m loads.did.3 in
    let works : LogWorks c line [] loads.found m e (only_calls (loads.calls ++ r.calls)) =
    reading_works c line [] loads.found m e (loads.calls ++ r.calls) reads
    (through_then log_faults (Take ∷ read_rows c loads.found) [] (WorksOver c line [] m) e loads.calls
    (only_calls r.calls) loads.did.4
    (r.ends line [])) in
    load_ended c line l e old mid new feed console console reads loads stays
    (λ n is. record {
      calls = (removes n is).calls;
      gained = (removes n is).gained;
      ends = (removes n is).ends line;
      out = puts_nothing e c (text_of c.mode c line n) console off
          (answers_fit c line [] loads.found m e (only_calls (loads.calls ++ r.calls)) works);
      pieces = no_pieces_put e c (text_of c.mode c line n) console off;
    })

-- ---- a map was to be created

pub creates_ran : (c : Command) (line : List ℕ) (e : LogEnding) (site site' : SiteState) (feed feed' : FeedState)
    (console : ConsoleState) → creates c.mode ≡ true → prints c.mode ≡ false → CreatesMap c line e site site' feed
    → Ran c line e (handed site feed console) (handed site' feed' console)
creates_ran c line e site site' feed feed' console new off made =
    let went : (m : Maps) → AreAskedFor c m → AreMapsOf c made.found m
    → WorksAs true c line made.list made.found m e (only_calls made.calls)
    → Ran c line e (handed site feed console) (handed site' feed' console) =
    λ m asked are w.
    let works : LogWorks c line made.list made.found m e (only_calls made.calls) =
    subst (λ (b : Bool). WorksAs b c line made.list made.found m e (only_calls made.calls)) (sym new) w in
    record {
      outside = record { line = line; list = made.list; found = made.found; maps = m };
      calls = made.calls;
      named = refl;
      agrees = record {
        found = made.is_own;
        list = made.is_feeds;
        calls = made.gained;
        alone = only made.calls;
        asked = asked;
        are = are;
      };
      work = works;
      out = puts_nothing e c (text_of c.mode c line m) console off
          (answers_fit c line made.list made.found m e (only_calls made.calls) works);
      pieces = no_pieces_put e c (text_of c.mode c line m) console off;
    } in
    let m : MapsOf c made.found = maps_of c made.found in
    elim made.did [
      | inl early ↦ went m.maps m.asked m.are (early m.maps)
      | inr by ↦ went by.0 by.2 by.1 by.3
    ]

-- ---- the feed

-- where no map is created it isn't taken from
pub ran_untaken : (c : Command) (line : List ℕ) (e : LogEnding) (old new : WorldState) (feed : FeedState)
    → creates c.mode ≡ false → Ran c line e old new → FeedAfter (creates c.mode) e feed feed
ran_untaken c line e old new feed reads r =
    feed_untaken e c feed reads
    (answers_fit c line r.outside.list r.outside.found r.outside.maps e (only_calls r.calls) r.work)

-- ---- all of it

-- It left everything as it was where it only reads, and where its answer says so.
stands_by : (c : Command) (line : List ℕ) (e : LogEnding) (old new : WorldState) → SiteKeeps old.site new.site
    → (r : Ran c line e old new) → OnlyReads c.mode ⊎ LeavesFiles e → IsTrue old.site.tells
    → ((name : List ℕ) → files_in new.site name ≡ files_in old.site name) × LeavesAll old.site r.calls
stands_by c line e old new keeps r leaves tells =
    let reads : AreReads r.calls =
    works_read c line r.outside.list r.outside.found r.outside.maps e r.calls leaves r.work in (
      λ name. ap (λ f. f name) (files_stand old.site new.site r.calls (keeps.start tells) (r.agrees.calls tells) reads),
      leave_all old.site r.calls reads,
    )

pub ran_done : (c : Command) (line : List ℕ) (e : LogEnding) (old new : WorldState) → SiteKeeps old.site new.site
    → TakesFeed (creates c.mode) e old.feed_ new.feed_ → Ran c line e old new → DoneFor log_program c line e old new
ran_done c line e old new keeps takes r =
    let o : Outside = r.outside in
    record {
      outside = o;
      did = only_calls r.calls;
      agrees = r.agrees;
      work = subst (λ (l : List ℕ). LogWorks c l o.list o.found o.maps e (only_calls r.calls)) (sym r.named) r.work;
      leaves = record {
        named = r.named;
        out = r.out;
        pieces = r.pieces;
        takes = takes;
        stops = stops_safely c line o.list o.found o.maps old.site e r.calls r.work;
        stands = stands_by c line e old new keeps r;
        others = λ tells.
            others_stand c line o.list o.found o.maps e old.site new.site r.calls (keeps.start tells)
            (r.agrees.calls tells) r.work;
      };
    }

pub starved_done : (c : Command) (line : List ℕ) (w : WorldState) → DoneFor log_program c line NoMemory w w
starved_done c line w =
    ran_done c line NoMemory w w (keeps_self w.site) (starved_feed (creates c.mode) w.feed_).takes
    (starved_ran c line w)

-- what was done, by what became of each object
pub ran_worked : (c : Command) (words : List (List ℕ)) (e : LogEnding) (s s' : SiteState) (f f' : FeedState)
    (p p' : ConsoleState) → s.is_drafting ≡ false
    → Ran c (line_by log_program words) e (handed s f p) (handed s' f' p') → SiteLeft e s s'
    → FeedAfter (creates c.mode) e f f' → LogWorked c words e (handed s f p) (handed s' f' p')
ran_worked c words e s s' f f' p p' none r site feed =
    let line : List ℕ = line_by log_program words in
    record {
      done = ran_done c line e (handed s f p) (handed s' f' p') site.keeps feed.takes r;
      cause = causes_by e (prints c.mode) (text_of c.mode c line r.outside.maps) s s' f f' p p' site feed.counts r.out;
      also = site.also;
      keeps = record { site = site.keeps; feed_ = feed.keeps; image = site.image; draft = site.draft none };
    }

-- memory ran out first
pub starved_worked : (c : Command) (words : List (List ℕ)) (s : SiteState) (f : FeedState) (p : ConsoleState)
    → s.is_drafting ≡ false → LogWorked c words NoMemory (handed s f p) (handed s f p)
starved_worked c words s f p none =
    ran_worked c words NoMemory s s f f p p none (starved_ran c (line_by log_program words) (handed s f p))
    (starved_after s) (starved_feed (creates c.mode) f)

-- what a mode that creates a map took of the feed
pub feed_created : (new : Bool) (e : LogEnding) (old now : FeedState) → new ≡ true → FeedLeft e old now
    → FeedAfter new e old now
feed_created true e old now on b = record { keeps = b.keeps; counts = b.counts; takes = b.takes }
feed_created false e old now on b = absurd (cc)
