-- Any rescue is safe wherever it is stopped.
use Rattle.std.proofs.Common.{◌≡◌, ◌⊎◌, inl, inr, ⊎_elim, ℕ, ◌+◌, ◌≤◌, ◌<◌, get_or, true, false, List, [], ◌∷◌, ◌++◌, length, take, map, All, Option, Some, None, option_map, is_some, refl, sym, ap, subst, ◌∙◌, arith}
use Rattle.std.specs.List.{slice_get}
use Rattle.std.proofs.lemmas.List.{append_cancel_left}
use Rattle.std.proofs.lemmas.Option.{slice_get-get_or}
use Rattle.block_list.specs.declared.status.Status.{Status}
use Rattle.block_list.specs.declared.status.Status.TheVariants.{Finished}
use Rattle.block_list.specs.Map.{Has}
use Rattle.mapfile_text.specs.declared.state.MapState.{MapState}
use Rattle.faulty_source.specs.Journal.{Reading}
use Rattle.crash_site.specs.Files.{File, bytes_of, draft_of}
use Rattle.crash_site.specs.Calls.{Entry}
use Rattle.crash_site.specs.Left.{IsLoose, Matches}
use Rattle.mapfile_save.specs.MapNames.{names_of, names_in}
use Rattle.mapfile_resume.specs.Named.{map_mode, IsMapOf}
use Rattle.rescue_domain.specs.Testing.{seen}
use Rattle.rescue_rules.specs.Setting.{Setting, IsSensible, place}
use Rattle.rescue_rules.specs.Start.{Stands}
use Rattle.rescue_rules.specs.Given.{given}
use Rattle.rescue_rules.specs.Work.{Gain, Goes}
use Rattle.rescue_rules.specs.Held.{Held}
use Rattle.rescue_rules.specs.Stops.{Before, files_before, lost_before, has_barrier, CouldBefore, opened_output, CouldBeOutput, StopOf, LeftBy}
use Rattle.rescue_rules.specs.StopsBy.{IsKept, KeepsOver, saves_of, RescueStopsBy}
use Rattle.option_words.specs.Words.{command_line}
use Rattle.ddrescue_words.specs.Command.{Command, Rescue as ForRescue}
use Rattle.task_files.specs.Names.{program_name}
use Rattle.task_files.specs.Maps.{Found, seen_through}
use Rattle.task_files.specs.Findings.{Findings, HasGainedReads}
use Rattle.task_files.specs.Work.{Rescues}
use Rattle.ddrescue_cli.specs.Tasks.{with_did}
use Rattle.ddrescue_cli.specs.Told.{Told, calls_before}
use Rattle.ddrescue_cli.specs.ToldParts.{asked_of}
use Rattle.ddrescue_cli.specs.Ddrescue.{TaskDone}
use Rattle.ddrescue_cli.proofs.AskedLemmas.{sensible_to}
use Rattle.rescue_safety.specs.Saves.{CallsFinished, IsOneSaved}
use Rattle.rescue_safety.specs.Safe.{Target, HasPlace, Run, reads_until, by_then, gives, IsOwn, IsHeld, IsSafe, IsSafeAnywhere}
use Rattle.rescue_safety.specs.Rescue.{Rescue, target_of, run_by, run_of, files_at_first}
use Rattle.rescue_safety.specs.AskedFor.{AreSeen, NoRead, Untested, Tested, IsAskedFor}
use Rattle.rescue_safety.specs.Laws.{AnyStopIsSafe, AnyTestedStopIsSafe}
use Rattle.rescue_safety.specs.AskedLaws.{EachIsTold, GivesWhatIsAskedFor, LeavesTheRest, StaysResumable, WritesAreOfReads}
use Rattle.rescue_safety.proofs.SaveLemmas.{goes_made, numbered}
use Rattle.rescue_safety.proofs.QuietLemmas.{SavesNone, none_or_stands}
use Rattle.rescue_safety.proofs.FinishedLemmas.{StandsAt, At, stands_at, StandsFinished, stands_finished, calls_finished, finished_has}
use Rattle.rescue_safety.proofs.ClaimLemmas.{some_or_none, never_some, was_finished, still_finished}
use Rattle.rescue_safety.proofs.OwnLemmas.{all_own}
use Rattle.rescue_safety.proofs.PromiseLemmas.{promise_goes, goes_domain}
use Rattle.rescue_safety.proofs.ThenLemmas.{kept_given, goes_unwritten}
use Rattle.rescue_safety.proofs.SettleLemmas.{settled_before, none_settled}
use Rattle.rescue_safety.proofs.WrittenLemmas.{IsFront, goes_written}
use Rattle.rescue_safety.specs.Written.{written_in, kept_in}
use Rattle.rescue_safety.proofs.BegunLemmas.{writes_in, none_begun}
use Rattle.rescue_safety.proofs.TestLemmas.{tested}
use Rattle.rescue_safety.proofs.DomainLemmas.{asked_for, named_file}

-- an output that could be before is no shorter than the one that reads,
pub was_longer : (o : Option File) (lost : List (ℕ × ℕ)) (was : File) (y : ℕ) → Matches (opened_output o) lost was
    → y < length (bytes_of o) → y < length was.bytes
was_longer None lost was y h low = absurd (let no : y < 0 = low in omega arith)
was_longer (Some f) lost was y h low = omega (arith, low, h.no_shorter)

-- and the same where nothing was lost
pub same_byte : (o : Option File) (lost : List (ℕ × ℕ)) (was : File) (y : ℕ) → Matches (opened_output o) lost was
    → (IsLoose lost y → ⊥) → y < length (bytes_of o) → slice_get was.bytes y ≡ slice_get (bytes_of o) y
same_byte None lost was y h unlost low = absurd (let no : y < 0 = low in omega arith)
same_byte (Some f) lost was y h unlost low =
    let e : get_or was.bytes y 0 ≡ get_or f.bytes y 0 = ⊎_elim (λ l. absurd (unlost l)) (λ same. same)
    (h.stands y low) in
    slice_get-get_or was.bytes y 0 (omega (arith, low, h.no_shorter)) ∙ ap (λ (v : ℕ). Some v) e
    ∙ sym (slice_get-get_or f.bytes y 0 low)

-- What a stop leaves past the barrier is held over an output that a stop before the run could have left: this has its byte
-- in each place whose position no read gave one.
pub record HeldOver (r : Run) (k : ℕ) (files : List ℕ → Option File) : Type 0 where
  pub was : File
  pub could : CouldBeOutput r.past r.target.outfile (draft_of r.target.mapfile) was
  pub held : IsHeld r k files
  pub stood : (y : ℕ) → y < length was.bytes → ((x : ℕ) → HasPlace r.target x y → gives r x ≡ None)
      → slice_get (bytes_of (files r.target.outfile)) y ≡ slice_get was.bytes y

none_left : (test : Option (List Status)) → seen_through test [] ≡ []
none_left None = refl
none_left (Some m) = refl

module _ (r : Rescue) where
  abbrev t : Told
  t = r.did.call.told

  abbrev c : Command
  c = r.command

  abbrev pub p : TaskDone (ForRescue r.command) r.did.call.told
  p = r.did.call.promised.does.asked_for (ForRescue r.command) r.asks

  abbrev pub w : Findings
  w = with_did p.outside p.did

  abbrev pub s : Setting
  s = asked_of r.command r.did.call.told w

  abbrev pub g : Gain
  g = w.did.gain

  abbrev pub b : Before
  b = calls_before r.did.call.told

  pub on : s.has_mapfile ≡ true
  on = ap (λ (m : Option (List ℕ)). is_some (option_map names_of m)) r.named

  pub map_is : s.names.map ≡ r.mapfile
  map_is = ap (λ (m : Option (List ℕ)). (names_in (option_map names_of m)).map) r.named

  draft_is : s.names.draft ≡ (names_of r.mapfile).draft
  draft_is = ap (λ (m : Option (List ℕ)). (names_in (option_map names_of m)).draft) r.named

  pub ok : IsSensible s
  ok = sensible_to c t.words (command_line program_name t.words) w.end w.maps r.asks

  pub goes : Goes s (files_before b) g
  goes = promise_goes c t p r.did.call.site_tells on

  pub safe : RescueStopsBy b s g
  safe = p.leaves.stops r.did.call.site_tells on

  pub calls_are : r.did.call.calls ≡ g.calls
  calls_are = append_cancel_left t.before.site.calls r.did.call.calls g.calls (sym r.did.call.made ∙ p.agrees.agrees.calls r.did.call.site_tells)

  gained : HasGainedReads w.maps.test t.before.source t.after.source g.reads
  gained = p.agrees.agrees.reads r.did.source_tells

  raw_are : r.did.reads ≡ gained.raw
  raw_are = append_cancel_left t.before.source.journal r.did.reads gained.raw (sym r.did.read ∙ gained.journal)

  -- the reads are seen by the map that the test map's name stands for
  seen_by : (test : Option (List Status)) → w.maps.test ≡ test → g.reads ≡ seen_through test r.did.reads
  seen_by test is =
      sym gained.seen_are ∙ ap (λ (o : Option (List Status)). seen_through o gained.raw) is
      ∙ ap (seen_through test) (sym raw_are)

  pub untested : c.test_map ≡ None → g.reads ≡ r.did.reads
  untested none = seen_by None (p.agrees.asked_maps.test none)

  test_file : (name : List ℕ) → c.test_map ≡ Some name → w.found.test ≡ files_at_first r name
  test_file name named =
      ap (λ (f : Found). f.test) (p.agrees.agrees.found r.did.call.site_tells) ∙ named_file c.test_map name (files_at_first r) named

  with_test : (name : List ℕ) (statuses : List Status) → c.test_map ≡ Some name
      → IsMapOf (files_at_first r name) (map_mode c.options.loose) statuses → g.reads ≡ map (seen statuses) r.did.reads
  with_test name statuses named of =
      seen_by (Some statuses) (p.agrees.are_maps.test statuses (ap is_some named)
      (subst (λ (f : Option File). IsMapOf f (map_mode c.options.loose) statuses) (sym (test_file name named)) of))

  -- a read that was answered is seen
  none_seen : (test : Option (List Status)) (raw : List Reading) → seen_through test raw ≡ [] → raw ≡ []
  none_seen test [] is = refl
  none_seen None (x ∷ xs) is = absurd (cc)
  none_seen (Some m) (x ∷ xs) is = absurd (cc)

  seen_named : (o : Option (List ℕ)) → c.test_map ≡ o → AreSeen r g.reads
  seen_named None none = Untested none (untested none)
  seen_named (Some name) named =
      ⊎_elim
      (λ (none : g.reads ≡ []).
      NoRead (raw_are ∙ none_seen w.maps.test gained.raw (gained.seen_are ∙ none)) none)
      (λ (m : (statuses : List Status) × IsMapOf w.found.test (map_mode c.options.loose) statuses).
      let of : IsMapOf (files_at_first r name) (map_mode c.options.loose) m.0
      = subst (λ (f : Option File). IsMapOf f (map_mode c.options.loose) m.0) (test_file name named) m.1 in
      Tested name m.0 named of (with_test name m.0 named of))
      (tested c w.found w.end (Rescues s w.found.mapfile w.lines) t.answer w.did name named p.work)

  seen_are : AreSeen r g.reads
  seen_are = seen_named c.test_map refl

  -- and so are no others
  pub seen_alone : (reads : List Reading) → AreSeen r reads → reads ≡ g.reads
  seen_alone reads (NoRead none is) =
      is ∙ sym (sym gained.seen_are ∙ ap (seen_through w.maps.test) (sym raw_are ∙ none) ∙ none_left w.maps.test)
  seen_alone reads (Untested none is) = is ∙ sym (untested none)
  seen_alone reads (Tested name statuses named of is) = is ∙ sym (with_test name statuses named of)

  own : All (IsOwn t.before.source.bytes) g.reads
  own = all_own t.before.source.bytes g.reads gained.right

  inside : (x byte : ℕ) → given c.options.sector g.reads x ≡ Some byte → s.domain x ≡ true
  inside x byte is = goes_domain s ok (files_before b) g x byte on goes is

  -- ---- one stop

  module _ (k : ℕ) (files : List ℕ → Option File) (le : k ≤ length g.calls) (left : LeftBy b g.calls k files) where
    abbrev stop : StopOf b g.calls
    stop = record { k = k; files = files; within = le; left = left }

    -- after the barrier it keeps its promise over an output that could be before
    pub over : has_barrier (take k g.calls) ≡ true → KeepsOver (λ began state. saves_of s began state g)
        (λ old began state number map image. Held s g.reads old map image) true b s g.calls k files
    over is = safe.past stop is

    -- the mapfile that a rescue began with stood for a map, if the one that is found does
    began_of : (end : ℕ) (map : List Status) (state : Option MapState) → has_barrier (take k g.calls) ≡ true
        → Stands (files s.names.map) end map state → StandsAt (files_before b s.names.map) s.end
    began_of end map state is stands =
        ⊎_elim
        (λ (n : (j : ℕ) → SavesNone g.calls j). stands_at (files_before b s.names.map) end s.end map state
        (subst (λ (f : Option File). Stands f end map state) ((over is).mapfile (n k).published) stands))
        (λ (at : StandsAt (files_before b s.names.map) s.end). at)
        (none_or_stands s (files_before b) g on goes)

    -- so it did, if anything is claimed
    began_by : (x : ℕ) → has_barrier (take k g.calls) ≡ true → CallsFinished (files s.names.map) x
        → StandsAt (files_before b s.names.map) s.end
    began_by x is fin =
        let f : StandsFinished (files s.names.map) s.end x = stands_finished (files s.names.map) s.end x fin in
        began_of s.end f.map f.state is f.stands

    kept_has : {old : List ℕ} (began : List Status) (was : Option MapState) (x : ℕ)
        (kept : IsKept b s g old began was k files)
        → CallsFinished (files s.names.map) x → Has kept.statuses Finished x
    kept_has began was x kept fin = finished_has (files s.names.map) s.end x kept.statuses kept.shows kept.stands fin

    mapfile_over : has_barrier (take k g.calls) ≡ true → StandsAt (files_before b s.names.map) s.end
        → IsOneSaved (files_before b s.names.map) g.calls k (files s.names.map)
    mapfile_over is (At began was there) =
        let i = (over is).kept began was there in
        record {
          number = i.number;
          no_older = λ before after name cut. omega (
            arith,
            i.no_older,
            settled_before s began was g (goes_made s (files_before b) g began was on goes there) k before after name cut,
          );
          is = numbered s began was g (goes_made s (files_before b) g began was on goes there)
              (files_before b s.names.map) (files s.names.map) (k + 1) i.number i.statuses i.is_save i.no_newer;
        }

    mapfile_at : has_barrier (take k g.calls) ≡ true → IsOneSaved (files_before b s.names.map) g.calls k (files s.names.map)
    mapfile_at is =
        ⊎_elim
        (λ (n : (j : ℕ) → SavesNone g.calls j). record {
          number = 0;
          no_older = λ before after name cut. none_settled g.calls k before after name n cut;
          is = (over is).mapfile (n k).published;
        })
        (λ (at : StandsAt (files_before b s.names.map) s.end). mapfile_over is at)
        (none_or_stands s (files_before b) g on goes)

    found_over : (end : ℕ) → has_barrier (take k g.calls) ≡ true → StandsAt (files_before b s.names.map) s.end
        → StandsAt (files s.names.map) end
    found_over end is (At began was there) =
        let kept = (over is).kept began was there in
        stands_at (files s.names.map) s.end end kept.statuses kept.shows kept.stands

    pub found_stands : (end : ℕ) (map : List Status) (state : Option MapState) → has_barrier (take k g.calls) ≡ true
        → Stands (files_before b s.names.map) end map state → StandsAt (files s.names.map) end
    found_stands end map state is stands =
        found_over end is (stands_at (files_before b s.names.map) end s.end map state stands)

    -- what a read had given it that had begun to be written
    abbrev then_gave : ℕ → Option ℕ
    then_gave x = given s.sector (reads_until s.sector (writes_in (take (k + 1) g.calls)) g.reads) x

    same_over : (x : ℕ) → has_barrier (take k g.calls) ≡ true → CallsFinished (files s.names.map) x
        → StandsAt (files_before b s.names.map) s.end → then_gave x ≡ given s.sector g.reads x
    same_over x is fin (At began was there) =
        let kept = (over is).kept began was there in
        kept_given b s g began was ok on goes there k files kept x (kept_has began was x kept fin)

    pub same_then : (x : ℕ) → has_barrier (take k g.calls) ≡ true → CallsFinished (files s.names.map) x
        → then_gave x ≡ given s.sector g.reads x
    same_then x is fin = same_over x is fin (began_by x is fin)

    abbrev Claims : ℕ → Type 0
    Claims x = CallsFinished (files_before b s.names.map) x ⊎ ((byte : ℕ) × (then_gave x ≡ Some byte))

    claimed_over : (x : ℕ) → has_barrier (take k g.calls) ≡ true → CallsFinished (files s.names.map) x
        → StandsAt (files_before b s.names.map) s.end → Claims x
    claimed_over x is fin (At began was there) =
        let kept = (over is).kept began was there in
        ⊎_elim
        (λ (some : (byte : ℕ) × (given s.sector g.reads x ≡ Some byte)).
        inr (some.0, same_then x is fin ∙ some.1))
        (λ (none : given s.sector g.reads x ≡ None).
        inl (calls_finished (files_before b s.names.map) s.end x began was there
        (was_finished b s g began was ok on goes there k files kept x (kept_has began was x kept fin) none)))
        (some_or_none (given s.sector g.reads x))

    rescued_over : (x byte : ℕ) → has_barrier (take k g.calls) ≡ true → CallsFinished (files s.names.map) x
        → given s.sector g.reads x ≡ Some byte → StandsAt (files_before b s.names.map) s.end
        → (y : ℕ) × HasPlace (target_of c r.mapfile) x y × (slice_get (bytes_of (files c.outfile)) y ≡ Some byte)
    rescued_over x byte is fin gave (At began was there) =
        let kept = (over is).kept began was there in
        let in_domain : s.domain x ≡ true = inside x byte gave in (
          place s x,
          omega (arith, ok.from x in_domain),
          kept.held.rescued x byte in_domain (kept_has began was x kept fin) gave,
        )

    still : (x : ℕ) → has_barrier (take k g.calls) ≡ true → CallsFinished (files_before b s.names.map) x
        → CallsFinished (files s.names.map) x
    still x is fin =
        let f : StandsFinished (files_before b s.names.map) s.end x = stands_finished (files_before b s.names.map) s.end x fin in
        let kept = (over is).kept f.map f.state f.stands in
        calls_finished (files s.names.map) s.end x kept.statuses kept.shows kept.stands
        (still_finished b s g f.map f.state ok on goes f.stands k files kept x f.has)

    -- by the calls of the run
    abbrev run_with : (mapfile : List ℕ) → List Entry → Run
    run_with mapfile calls =
        run_by r.did (target_of c mapfile) s.sector (reads_until s.sector (writes_in (take (k + 1) calls)) g.reads)

    held : has_barrier (take k g.calls) ≡ true → IsHeld (run_with s.names.map g.calls) k files
    held is = record {
      mapfile = subst (λ (l : List Entry). IsOneSaved (files_before b s.names.map) l k (files s.names.map)) (sym calls_are)
          (mapfile_at is);
      claimed = λ x fin. claimed_over x is fin (began_by x is fin);
      kept = λ x fin. still x is fin;
      rescued = λ x byte fin gave.
          rescued_over x byte is fin (sym (same_then x is fin) ∙ gave) (began_by x is fin);
      stood = λ y low unlost none.
          let o = over is in
          let low_was : y < length o.was.bytes = was_longer (files_before b s.outfile) (lost_before b s.outfile) o.was y
          o.could.alike low in
          o.unwritten y (goes_unwritten s ok y (files_before b) g (k + 1) on goes none) low_was
          ∙ same_byte (files_before b s.outfile) (lost_before b s.outfile) o.was y o.could.alike unlost low;
    }

  safe_at : (k : ℕ) (files : List ℕ → Option File) → k ≤ length r.did.call.calls → LeftBy b r.did.call.calls k files
      → IsSafe (by_then (run_of r g.reads) k) k files
  safe_at k files le left =
      let le' : k ≤ length g.calls = subst (λ (l : List Entry). k ≤ length l) calls_are le in
      let left' : LeftBy b g.calls k files = subst (λ (l : List Entry). LeftBy b l k files) calls_are left in
      record {
        until_barrier = λ off. subst (λ (n : List ℕ). CouldBefore b s.outfile n files) draft_is
            (safe.before (record { k = k; files = files; within = le'; left = left' })
            (subst (λ (l : List Entry). has_barrier (take k l) ≡ false) calls_are off));
        past_barrier = λ is.
            subst (λ (l : List Entry). IsHeld (run_with k files le' left' r.mapfile l) k files) (sym calls_are)
            (subst (λ (m : List ℕ). IsHeld (run_with k files le' left' m g.calls) k files) map_is
            (held k files le' left' (subst (λ (l : List Entry). has_barrier (take k l) ≡ true) calls_are is)));
        others = λ name output mapfile draft.
            safe.others (record { k = k; files = files; within = le'; left = left' }) name output
            (λ is. mapfile (is ∙ map_is)) (λ is. draft (is ∙ draft_is));
      }

  safe_by : IsSafeAnywhere (run_of r g.reads)
  safe_by = record { own = own; safe = safe_at }

  -- once the barrier has returned, what is found is held over an output that could be before
  over_at : (k : ℕ) (files : List ℕ → Option File) → k ≤ length r.did.call.calls → LeftBy b r.did.call.calls k files
      → has_barrier (take k r.did.call.calls) ≡ true → HeldOver (by_then (run_of r g.reads) k) k files
  over_at k files le left is =
      let le' : k ≤ length g.calls = subst (λ (l : List Entry). k ≤ length l) calls_are le in
      let left' : LeftBy b g.calls k files = subst (λ (l : List Entry). LeftBy b l k files) calls_are left in
      let is' : has_barrier (take k g.calls) ≡ true
      = subst (λ (l : List Entry). has_barrier (take k l) ≡ true) calls_are is in
      let o = over k files le' left' is' in
      record {
        was = o.was;
        could = subst (λ (n : List ℕ). CouldBeOutput b s.outfile n o.was) draft_is o.could;
        held = (safe_at k files le left).past_barrier is;
        stood = λ y low none.
            o.unwritten y (goes_unwritten s ok y (files_before b) g (k + 1) on goes
            (subst (λ (l : List Entry). (x : ℕ) → HasPlace (target_of c r.mapfile) x y
            → given s.sector (reads_until s.sector (writes_in (take (k + 1) l)) g.reads) x ≡ None) calls_are none)) low;
      }

-- by any reads that are seen
pub held_over : (r : Rescue) (reads : List Reading) (k : ℕ) (files : List ℕ → Option File) → AreSeen r reads
    → k ≤ length r.did.call.calls → LeftBy (b r) r.did.call.calls k files
    → has_barrier (take k r.did.call.calls) ≡ true → HeldOver (by_then (run_of r reads) k) k files
held_over r reads k files are le left is =
    subst (λ (l : List Reading). HeldOver (by_then (run_of r l) k) k files) (sym (seen_alone r reads are))
    (over_at r k files le left is)

pub safe_anywhere : (r : Rescue) (reads : List Reading) → AreSeen r reads → IsSafeAnywhere (run_of r reads)
safe_anywhere r reads are =
    subst (λ (l : List Reading). IsSafeAnywhere (run_of r l)) (sym (seen_alone r reads are)) (safe_by r)

pub any_tested_stop_is_safe : AnyTestedStopIsSafe
any_tested_stop_is_safe r = ((g r).reads, seen_are r, safe_by r)

pub any_stop_is_safe : AnyStopIsSafe
any_stop_is_safe r none = safe_anywhere r r.did.reads (Untested none refl)

pub gives_what_is_asked_for : GivesWhatIsAskedFor
gives_what_is_asked_for r reads x byte are is =
    asked_for r (p r) x
    (inside r x byte
    (subst (λ (l : List Reading). given r.command.options.sector l x ≡ Some byte) (seen_alone r reads are) is))

pub each_is_told : EachIsTold
each_is_told t c mapfile promised asks named site_tells source_tells =
    let p : TaskDone (ForRescue c) t = promised.does.asked_for (ForRescue c) asks in
    let gained : HasGainedReads p.outside.maps.test t.before.source t.after.source p.did.gain.reads = p.agrees.agrees.reads source_tells in (
      record {
        did = record {
          call = record {
            told = t;
            promised = promised;
            site_tells = site_tells;
            calls = p.did.gain.calls;
            made = p.agrees.agrees.calls site_tells;
          };
          source_tells = source_tells;
          reads = gained.raw;
          read = gained.journal;
        };
        command = c;
        asks = asks;
        mapfile = mapfile;
        named = named;
      },
      refl,
      refl,
    )

-- if the mapfile found calls a position finished, what reads gave it was given by then
pub given_by_then : (r : Rescue) (reads : List Reading) (k : ℕ) (files : List ℕ → Option File) (x : ℕ) → AreSeen r reads
    → k ≤ length r.did.call.calls → LeftBy (b r) r.did.call.calls k files
    → has_barrier (take k r.did.call.calls) ≡ true → CallsFinished (files r.mapfile) x
    → gives (by_then (run_of r reads) k) x ≡ gives (run_of r reads) x
given_by_then r reads k files x are le left is fin =
    let alone : reads ≡ (g r).reads = seen_alone r reads are in
    let le' : k ≤ length (g r).calls = subst (λ (l : List Entry). k ≤ length l) (calls_are r) le in
    let left' : LeftBy (b r) (g r).calls k files = subst (λ (l : List Entry). LeftBy (b r) l k files) (calls_are r) left in
    let same = same_then r k files le' left' x (subst (λ (l : List Entry). has_barrier (take k l) ≡ true) (calls_are r) is)
    (subst (λ (m : List ℕ). CallsFinished (files m) x) (sym (map_is r)) fin) in
    subst (λ (l : List Reading). gives (by_then (run_of r l) k) x ≡ gives (run_of r l) x) (sym alone)
    (subst (λ (l : List Entry).
    given r.command.options.sector (reads_until r.command.options.sector (writes_in (take (k + 1) l)) (g r).reads) x
    ≡ given r.command.options.sector (g r).reads x) (sym (calls_are r)) same)

pub writes_are_of_reads : WritesAreOfReads
writes_are_of_reads r reads are =
    let t : Target = target_of r.command r.mapfile in
    let f : IsFront (written_in (g r).calls) (kept_in t r.command.options.sector (g r).reads)
    = goes_written t (s r) (ok r) refl refl (files_before (b r)) (g r) (on r) (goes r) in (
      f.rest,
      ap (λ (l : List Reading). kept_in t r.command.options.sector l) (seen_alone r reads are) ∙ f.is
          ∙ ap (λ (l : List Entry). written_in l ++ f.rest) (sym (calls_are r)),
    )

resumed : (mapfile : Option File) (end : ℕ) → StandsAt mapfile end
    → (map : List Status) × (state : Option MapState) × Stands mapfile end map state
resumed mapfile end (At map state stands) = (map, state, stands)

pub stays_resumable : StaysResumable
stays_resumable r k files end map state le left is stands =
    resumed (files r.mapfile) end
    (subst (λ (m : List ℕ). StandsAt (files m) end) (map_is r)
    (found_stands r k files (subst (λ (l : List Entry). k ≤ length l) (calls_are r) le)
    (subst (λ (l : List Entry). LeftBy (b r) l k files) (calls_are r) left) end map state
    (subst (λ (l : List Entry). has_barrier (take k l) ≡ true) (calls_are r) is)
    (subst (λ (m : List ℕ). Stands (files_before (b r) m) end map state) (sym (map_is r)) stands)))

-- what a read gave that had begun to be written is asked for
begun_asked_for : (r : Rescue) (reads : List Reading) (k x byte : ℕ) → AreSeen r reads
    → gives (by_then (run_of r reads) k) x ≡ Some byte → IsAskedFor r x
begun_asked_for r reads k x byte are is =
    ⊎_elim
    (λ (some : (v : ℕ) × (gives (run_of r reads) x ≡ Some v)). gives_what_is_asked_for r reads x some.0 are some.1)
    (λ (none : gives (run_of r reads) x ≡ None).
    absurd (never_some byte (gives (by_then (run_of r reads) k) x)
    (none_begun r.command.options.sector x (writes_in (take (k + 1) r.did.call.calls)) reads none) is))
    (some_or_none (gives (run_of r reads) x))

none_given : (o : Option ℕ) → ((byte : ℕ) → o ≡ Some byte → ⊥) → o ≡ None
none_given None never = refl
none_given (Some byte) never = absurd (never byte refl)

pub leaves_the_rest : LeavesTheRest
leaves_the_rest r k files y le left is low unlost unasked =
    ((safe_at r k files le left).past_barrier is).stood y low unlost
    (λ x at. none_given (gives (by_then (run_of r (g r).reads) k) x)
    (λ byte gave. unasked x at (begun_asked_for r (g r).reads k x byte (seen_are r) gave)))
