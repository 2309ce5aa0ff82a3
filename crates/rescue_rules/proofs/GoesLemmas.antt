-- The calls of a rescue with a mapfile are a cut of one list: its opening, its load, its moves, and its last save.
use Rattle.std.proofs.Common.{◌≡◌, ◌⊎◌, inl, inr, ⊎_elim, ℕ, ◌+◌, ◌*◌, ◌≤◌, Bool, true, List, [], ◌∷◌, ◌++◌, length, drop, map, Option, None, refl, sym, ◌∙◌, ap, subst, arith, append_assoc, append-nil, length-drop}
use Rattle.std.specs.List.{flat_map}
use Rattle.std.proofs.lemmas.List.{map-append}
use Rattle.std.proofs.lemmas.List.Elements.{All-nil}
use Rattle.std.proofs.lemmas.Grind.{flat_map-append}
use Rattle.block_list.specs.declared.status.Status.{Status}
use Rattle.mapfile_text.specs.declared.state.MapState.{MapState}
use Rattle.faulty_source.specs.Journal.{Reading}
use Rattle.crash_site.specs.declared.site.SiteCall.{SiteCall}
use Rattle.crash_site.specs.declared.site.SiteCall.TheVariants.{MapRead as MapReadName}
use Rattle.crash_site.specs.Files.{File}
use Rattle.crash_site.specs.Calls.{Call, Entry, Done}
use Rattle.crash_site.specs.CallsMade.{Lost, BrokeAt}
use Rattle.mapfile_save.specs.Loading.{BeginsLoad}
use Rattle.rescue_rules.specs.declared.stop.RunEnd.{RunEnd}
use Rattle.rescue_rules.specs.Setting.{Setting}
use Rattle.rescue_rules.specs.Start.{Stands}
use Rattle.rescue_rules.specs.Machine.{Machine}
use Rattle.rescue_rules.specs.Step.{Event}
use Rattle.rescue_rules.specs.Moves.{Move, move_of, moves, state_after, IsMove, IsRun}
use Rattle.rescue_rules.specs.Events.{with_times, events_of, reads_of as reads_of_events}
use Rattle.rescue_rules.specs.Snapshots.{last_snapshot}
use Rattle.rescue_rules.specs.RunCalls.{move_calls, run_calls, end_calls}
use Rattle.rescue_rules.specs.RunDeeds.{run_deeds}
use Rattle.rescue_rules.specs.Work.{Gain, begins, events_in, Ends, IsSaved, IsUnsaved, IsBroken, lost_reads, GoesOn, InOpening, InLoad, InRun}
use Rattle.rescue_rules.proofs.MoveLemmas.{moves_more}
use Rattle.rescue_rules.proofs.MapfileLemmas.{opening_by, opening_is, mapfile_is}
use Rattle.rescue_rules.proofs.DeedStages.{all_calls, doing_is}
use Rattle.rescue_rules.proofs.RunDeedLemmas.{run_is_deeds}
use Rattle.rescue_rules.proofs.OthersLemmas.{reads_of}
use Rattle.rescue_rules.proofs.StopsByLemmas.{CutOf, OverMaps}
pub use Rattle.rescue_rules.proofs.StopsByLemmas.{AnyMap, OneMap}
use Rattle.rescue_rules.proofs.CutLemmas.{Cut, cut_all, cut_front, cut_more, cut_past, lost_cut}

-- a list of calls that broke is a cut of it
pub broke_cut : (at : SiteCall) (pre cs : List Call) (es : List Entry) → BrokeAt at cs (map Done pre) es
    → Cut (pre ++ cs) es
broke_cut at pre [] es h = absurd h
broke_cut at pre (c ∷ cs) es (inl h) = lost_cut pre c cs es h.1
broke_cut at pre (c ∷ cs) es (inr h) =
    subst (λ (l : List Call). Cut l es) (append_assoc pre (c ∷ []) cs)
    (broke_cut at (pre ++ c ∷ []) cs es
    (subst (λ (l : List Entry). BrokeAt at cs l es) (sym (map-append Done pre (c ∷ []))) h))

-- a rescue over a map
pub record Course (s : Setting) (began : List Status) (state : Option MapState) (g : Gain) : Type 0 where
  pub run : IsRun s (begins s began state g) (events_in g)
  pub reads : reads_of_events (events_in g) ≡ g.reads
  pub course : CutOf s true (run_deeds s (begins s began state g) (events_in g))
      (last_snapshot s (state_after s (begins s began state g) (events_in g))) g.calls

-- over any map, where none was read, or over the one that the mapfile stands for
abbrev pub Way : Setting → (List ℕ → Option File) → Gain → Type 0
Way s files g = OverMaps (λ began state. Course s began state g) (files s.names.map) s.end

-- the calls of its moves, and its last save
abbrev RescueCalls : Setting → Machine → List Event → List Call
RescueCalls s m es = all_calls s (run_deeds s m es) (last_snapshot s (state_after s m es))

-- without a read there is no event
pub no_events : (g : Gain) → g.reads ≡ [] → events_in g ≡ []
no_events g none = ap (λ (l : List Reading). events_of l g.times) none

no_run : (s : Setting) (m : Machine) (es : List Event) → es ≡ [] → IsRun s m es
no_run s m es none =
    subst (λ (l : List Event). IsRun s m l) (sym none) (record { each = All-nil (IsMove s) })

no_reads : (g : Gain) → g.reads ≡ [] → reads_of_events (events_in g) ≡ g.reads
no_reads g none = ap (λ (l : List Event). reads_of_events l) (no_events g none) ∙ sym none

opening_course : (s : Setting) (g : Gain) (began : List Status) (state : Option MapState) → g.reads ≡ []
    → Cut (opening_by s true) g.calls → Course s began state g
opening_course s g began state none cut =
    let m : Machine = begins s began state g in
    record {
      run = no_run s m (events_in g) (no_events g none);
      reads = no_reads g none;
      course = record {
        given = [];
        at = 0;
        answer = None;
        cut = cut_more (opening_by s true) (reads_of s [] 0 None ++ RescueCalls s m (events_in g)) g.calls cut;
      };
    }

load_course : (s : Setting) (file : Option File) (g : Gain) (load : List Call) (began : List Status)
    (state : Option MapState) → BeginsLoad s.names.map file load → IsRun s (begins s began state g) (events_in g)
    → reads_of_events (events_in g) ≡ g.reads
    → Cut (opening_by s true ++ (load ++ RescueCalls s (begins s began state g) (events_in g))) g.calls
    → Course s began state g
load_course s file g load began state b run reads cut =
    let m : Machine = begins s began state g in
    record {
      run = run;
      reads = reads;
      course = record {
        given = b.given;
        at = _;
        answer = b.answer;
        cut = subst (λ (l : List Call). Cut (opening_by s true ++ (l ++ RescueCalls s m (events_in g))) g.calls)
            b.calls_are cut;
      };
    }

run_more : (s : Setting) (m : Machine) (before : List Event) (last : Event)
    → run_calls s m (before ++ last ∷ []) ≡ run_calls s m before ++ move_calls s (move_of s (state_after s m before) last)
run_more s m before last =
    let v : Move = move_of s (state_after s m before) last in
    ap (λ (vs : List Move). flat_map (move_calls s) vs) (moves_more s m before last)
    ∙ flat_map-append (move_calls s) (moves s m before) (v ∷ [])
    ∙ ap (λ (l : List Call). run_calls s m before ++ l) (append-nil (move_calls s v))

-- the calls of a run
ends_cut : (s : Setting) (m : Machine) (es : List Event) (calls : List Entry) (end : RunEnd)
    → Ends s m es calls end → Cut (run_calls s m es ++ end_calls s m es) calls
ends_cut s m es calls end (IsSaved stop by end_is is) =
    subst (λ (l : List Entry). Cut (run_calls s m es ++ end_calls s m es) l) (sym is) (cut_all (run_calls s m es ++ end_calls s m es))
ends_cut s m es calls end (IsUnsaved stop call by end_is broke) =
    broke_cut call (run_calls s m es) (end_calls s m es) calls broke
ends_cut s m es calls end (IsBroken before last call is end_is broke) =
    let v : List Call = move_calls s (move_of s (state_after s m before) last) in
    subst (λ (l : List Call). Cut (l ++ end_calls s m es) calls)
    (sym (ap (λ (l : List Event). run_calls s m l) is ∙ run_more s m before last))
    (cut_more (run_calls s m before ++ v) (end_calls s m es) calls
    (broke_cut call (run_calls s m before) v calls broke))

pub front_cut : (s : Setting) (makes : Bool) (front back : List Call) (calls : List Entry)
    → front ++ back ≡ opening_by s makes
    → (calls ≡ map Done front) ⊎
    ((call : Call) × (rest : List Call) × (back ≡ call ∷ rest) × Lost call (map Done front) calls)
    → Cut (opening_by s makes) calls
front_cut s makes front back calls is (inl h) =
    subst (λ (l : List Call). Cut l calls) is
    (subst (λ (l : List Entry). Cut (front ++ back) l) (sym h) (cut_front front back))
front_cut s makes front back calls is (inr h) =
    subst (λ (l : List Call). Cut l calls) is
    (subst (λ (l : List Call). Cut (front ++ l) calls) (sym h.2) (lost_cut front h.0 h.1 calls h.3))

-- after the opening and a load
pub past_load : (s : Setting) (makes : Bool) (load : List Call) (more : List Call) (rest : List Entry) → Cut more rest
    → Cut (opening_by s makes ++ (load ++ more)) (map Done (opening_by s makes ++ load) ++ rest)
past_load s makes load more rest h =
    subst (λ (l : List Call). Cut l (map Done (opening_by s makes ++ load) ++ rest))
    (append_assoc (opening_by s makes) load more)
    (cut_past (opening_by s makes ++ load) more rest h)

pub load_cut : (s : Setting) (makes : Bool) (load more : List Call) (calls : List Entry)
    → (calls ≡ map Done (opening_by s makes ++ load)) ⊎ BrokeAt MapReadName (opening_by s makes ++ load) [] calls
    → Cut (opening_by s makes ++ (load ++ more)) calls
load_cut s makes load more calls h =
    subst (λ (l : List Call). Cut l calls) (append_assoc (opening_by s makes) load more)
    (⊎_elim
    (λ (e : calls ≡ map Done (opening_by s makes ++ load)). subst
    (λ (l : List Entry). Cut ((opening_by s makes ++ load) ++ more) l) (sym e)
    (cut_front (opening_by s makes ++ load) more))
    (λ broke. cut_more (opening_by s makes ++ load) more calls
    (broke_cut MapReadName [] (opening_by s makes ++ load) calls broke)) h)

-- reads whose times are told are those of the events
pub timed : (reads : List Reading) (times : List ℕ) → 2 * length reads ≤ length times
    → reads_of_events (with_times reads times) ≡ reads
timed [] times enough = refl
timed (r ∷ rs) [] enough = absurd (omega (arith, enough))
timed (r ∷ rs) (before ∷ []) enough = absurd (omega (arith, enough))
timed (r ∷ rs) (before ∷ after ∷ times) enough = ap (λ (l : List Reading). r ∷ l) (timed rs times (omega (arith, enough)))

runs_timed : (g : Gain) (lost : ℕ) → length g.times ≡ 1 + 2 * length g.reads + lost
    → reads_of_events (events_in g) ≡ g.reads
runs_timed g lost is = timed g.reads (drop 1 g.times) (omega (arith, is, length-drop 1 g.times))

-- a run's calls are those of its deeds
rescue_calls : (s : Setting) (m : Machine) (es : List Event) → s.has_mapfile ≡ true
    → run_calls s m es ++ end_calls s m es ≡ RescueCalls s m es
rescue_calls s m es on =
    sym (run_is_deeds s m es).calls ∙ doing_is s (run_deeds s m es) (last_snapshot s (state_after s m es)) on

-- each rescue with a mapfile takes one way after its reads of other maps
pub way : (s : Setting) (files : List ℕ → Option File) (g : Gain) → s.has_mapfile ≡ true → GoesOn s files g → Way s files g
way s files g on (InOpening front back is none h) =
    AnyMap (λ began state. opening_course s g began state none (front_cut s true front back g.calls (is ∙ opening_is s on) h))
way s files g on (InLoad load there begins_load none h) =
    AnyMap (λ began state. load_course s (files s.names.map) g load began state begins_load
    (no_run s (begins s began state g) (events_in g) (no_events g none)) (no_reads g none)
    (load_cut s true load (RescueCalls s (begins s began state g) (events_in g)) g.calls
    (subst (λ (l : List Call). (g.calls ≡ map Done (l ++ load)) ⊎ BrokeAt MapReadName (l ++ load) [] g.calls)
    (opening_is s on) h)))
way s files g on (InRun load began state end rest loaded stands is runs) =
    let m : Machine = begins s began state g in
    let es : List Event = events_in g in
    let calls_are : g.calls ≡ map Done (opening_by s true ++ load) ++ rest
    = is ∙ ap (λ (l : List Call). map Done (l ++ load) ++ rest) (opening_is s on) in
    let cut : Cut (RescueCalls s m es) rest
    = subst (λ (l : List Call). Cut l rest) (rescue_calls s m es on) (ends_cut s m es rest end runs.ends) in
    OneMap began state (subst (λ (o : Option File). Stands o s.end began state) (mapfile_is s files on) stands)
    (load_course s (files s.names.map) g load began state (loaded.all on).begins runs.run
    (runs_timed g (lost_reads end) runs.times)
    (subst (λ (l : List Entry). Cut (opening_by s true ++ (load ++ RescueCalls s m es)) l) (sym calls_are)
    (past_load s true load (RescueCalls s m es) rest cut)))
