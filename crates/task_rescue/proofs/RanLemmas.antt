-- What a run did, whatever its input and its output are named.
use Rattle.std.proofs.Common.{◌≡◌, ℕ, ◌*◌, ◌<◌, ◌^◌, Bool, IsTrue, List, [], ◌∷◌, ◌++◌, length, All, Option, Some, None, is_some, option_map, refl, sym, ap, ◌∙◌, arith, subst, inl, inr, append-nil, length-append}
use Rattle.std.proofs.Math.Path.{fun_ext}
use Rattle.std.proofs.lemmas.List.Elements.{All-nil, All-cons}
use Rattle.block_list.specs.declared.status.Status.{Status}
use Rattle.mapfile_text.specs.declared.state.MapState.{MapState}
use Rattle.faulty_source.specs.SourceState.{SourceState}
use Rattle.crash_site.specs.Calls.{Entry}
use Rattle.crash_site.specs.SiteState.{SiteState}
use Rattle.mapfile_save.specs.MapNames.{MapNames, names_in}
use Rattle.rescue_console.specs.ClockState.{ClockState, Reads as ReadsClock}
use Rattle.rescue_console.specs.ConsoleState.{ConsoleState}
use Rattle.rescue_console.specs.Speaking.{SpeaksOn, out_pieces}
use Rattle.rescue_domain.specs.Parts.{covers}
use Rattle.rescue_rules.specs.declared.stop.RunEnd.{RunEnd}
use Rattle.rescue_rules.specs.declared.stop.Stop.{Stop}
use Rattle.rescue_rules.specs.declared.stop.Stop.TheVariants.{SourceLost as InputLost, Site, LimitMet as Limited, NoMemory as NoRoom}
use Rattle.rescue_rules.specs.Setting.{Setting}
use Rattle.rescue_rules.specs.Nameless.{nameless}
use Rattle.rescue_rules.specs.Machine.{Machine}
use Rattle.rescue_rules.specs.Step.{Event}
use Rattle.rescue_rules.specs.Moves.{state_after, IsRun}
use Rattle.rescue_rules.specs.Preparation.{prepared}
use Rattle.rescue_rules.specs.Beginning.{goes_on_from, shown_at_first, machine_of, machine_over}
use Rattle.rescue_rules.specs.Events.{reads_of, times_of, with_times}
use Rattle.rescue_rules.specs.Laws.{AreTimes}
use Rattle.rescue_rules.specs.Lines.{lines_of, opening_lines}
use Rattle.rescue_rules.specs.Work.{Gain, events_in, EndsBy, Ends, IsSaved, IsUnsaved, IsBroken, lost_reads}
use Rattle.rescue_rules.proofs.NamelessLemmas.{run_named}
use Rattle.run_options.specs.declared.settings.Settings.{Settings}
use Rattle.rescue_core.specs.RunState.{RunState, setting_with as core_setting, setting_in}
use Rattle.task_files.specs.declared.ending.Ending.{Ending}
use Rattle.task_files.specs.declared.ending.Ending.TheVariants.{NoMemory}
use Rattle.ddrescue_words.specs.declared.options.Options.{Options}
use Rattle.ddrescue_words.specs.Command.{Command}
use Rattle.task_rescue.specs.declared.ready.RunMemory.{RunMemory}
use Rattle.task_files.specs.Asked.{Maps, names_by, setting_asked, setting_of, domain_asked}
use Rattle.rescue_rules.specs.Across.{Across}
use Rattle.faulty_source.specs.Journal.{IsFrom}
use Rattle.rescue_console.proofs.SpeakingLemmas.{says_none}
use Rattle.rescue_core.proofs.ObjectLemmas.{timed_more, says_more}
use Rattle.task_files.specs.Work.{answer_of, said_by}
use Rattle.task_files.specs.Steps.{DidRun}
use Rattle.task_files.specs.Settings.{settings_by, lines_in}
use Rattle.task_rescue.specs.Running.{IsReady, IsRunOver, WentToEnd}

-- the setting of such a run is the rescue's, but for the names of its files
pub setting_is : (i o : List ℕ) (n : Option MapNames) (l : List ℕ) (opts : Options) (end : ℕ) (maps : Maps)
    (statuses : List Status) (state : Option MapState) (moment : ℕ) (heard : Bool) (r : RunState)
    → IsRunOver n l opts end maps statuses state moment heard r
    → setting_in r ≡ nameless (setting_asked i o n l opts end maps)
setting_is i o n l opts end maps statuses state moment heard r is =
    let domain : ℕ → Bool = domain_asked opts end maps in
    let positions : covers r.domain ≡ domain = fun_ext is.domain in
    let S : Settings → Setting = λ settings. core_setting settings r.domain r.names r.line in
    let D : (ℕ → Bool) → Setting = λ inside. record (S (settings_by opts)) { domain = inside } in
    let N : Option MapNames → Setting = λ names. record (D domain) { has_mapfile = is_some names; names = names_in names } in
    let L : List ℕ → Setting = λ line. record (N n) { line = line } in
    ap S is.settings_are ∙ ap D positions ∙ ap N is.names_are ∙ ap L is.line_is

-- The readings of the clock around the events of a run, after that of its start.
with_own_times : (es : List Event) (spare : List ℕ) → with_times (reads_of es) (times_of es ++ spare) ≡ es
with_own_times [] spare = refl
with_own_times (e ∷ es) spare = ap (λ (rest : List Event). e ∷ rest) (with_own_times es spare)

two_times : (es : List Event) → length (times_of es) ≡ 2 * length (reads_of es)
two_times [] = refl
two_times (e ∷ es) = omega (arith, two_times es)

-- how a run ends doesn't depend on those names
ends_by_named : (stop : Option Stop) (s : Setting) (m : Machine) → EndsBy stop (nameless s) m → EndsBy stop s m
ends_by_named (Some InputLost) s m by = by
ends_by_named _ s m by = by

ends_named : (s : Setting) (m : Machine) (es : List Event) (calls : List Entry) (end : RunEnd)
    → Ends (nameless s) m es calls end → Ends s m es calls end
ends_named s m es calls end (IsSaved stop by is all) = IsSaved stop (ends_by_named stop s (state_after s m es) by) is all
ends_named s m es calls end (IsUnsaved stop call by is broke) =
    IsUnsaved stop call (ends_by_named stop s (state_after s m es) by) is broke
ends_named s m es calls end (IsBroken before last call split is broke) = IsBroken before last call split is broke

-- a run over a map from this moment on, which is heard before and after it or not, in the words of a rescue
record InWords (s : Setting) (statuses : List Status) (state : Option MapState) (moment : ℕ) (heard heard' : Bool)
    (end : RunEnd) (o : Across) : Type 0 where
  events : List Event
  spare : List ℕ
  lost : length spare ≡ lost_reads end
  run : IsRun s (machine_over s statuses state moment) events
  gained : List Entry
  grew : IsTrue o.site.tells → o.site'.calls ≡ o.site.calls ++ gained
  ends : Ends s (machine_over s statuses state moment) events gained end
  read : IsTrue o.source.tells → o.source'.journal ≡ o.source.journal ++ reads_of events
  right : IsTrue o.source.tells → All (IsFrom o.source.bytes) (reads_of events)
  timed : ReadsClock (times_of events ++ spare) o.clock o.clock'
  fit : AreTimes (times_of events ++ spare)
  says : SpeaksOn (out_pieces (lines_of s (machine_over s statuses state moment) events end)) heard heard' o.console o.console'

in_words : (i o : List ℕ) (n : Option MapNames) (l : List ℕ) (opts : Options) (end : ℕ) (maps : Maps)
    (statuses : List Status) (state : Option MapState) (moment : ℕ) (heard heard' : Bool) (r : RunState) (at : RunEnd)
    (a : Across) → IsRunOver n l opts end maps statuses state moment heard r → WentToEnd r at heard' a
    → InWords (setting_asked i o n l opts end maps) statuses state moment heard heard' at a
in_words i o n l opts end maps statuses state moment heard heard' r at a is w =
    let s : Setting = setting_asked i o n l opts end maps in
    let same : setting_in r ≡ nameless s = setting_is i o n l opts end maps statuses state moment heard r is in
    let m : Machine = machine_over s statuses state moment in
    let positions : covers r.domain ≡ s.domain = fun_ext is.domain in
    let M : (ℕ → Bool) → Setting → Machine =
    λ inside t. machine_of t (prepared inside opts.try_again opts.retrim statuses) (goes_on_from opts.try_again state) (shown_at_first state) moment in
    let start : r.machine ≡ m = is.machine ∙ ap (λ (inside : ℕ → Bool). M inside (setting_in r)) positions ∙ ap (M s.domain) same in
    let P : Setting → Machine → Type 0 = λ t n. IsRun t n w.events in
    let E : Setting → Machine → Type 0 = λ t n. Ends t n w.events w.gained at in
    let L : Setting → Machine → Bool → Type 0 =
    λ t n h. SpeaksOn (out_pieces (lines_of t n w.events at)) h heard' a.console a.console' in
    record {
      events = w.events;
      spare = w.spare;
      lost = w.lost;
      run = run_named s m w.events (subst (P (nameless s)) start (subst (λ (t : Setting). P t r.machine) same w.run));
      gained = w.gained;
      grew = w.grew;
      ends = ends_named s m w.events w.gained at
          (subst (E (nameless s)) start (subst (λ (t : Setting). E t r.machine) same w.ends));
      read = w.read;
      right = w.right;
      timed = w.timed;
      fit = w.fit;
      says = subst (L s m) is.heard_is (subst (λ (n : Machine). L (nameless s) n r.heard) start
          (subst (λ (t : Setting). L t r.machine r.heard) same w.says));
    }

-- the run with all its calls, reads and readings
ran_so : (s : Setting) (statuses : List Status) (state : Option MapState) (moment : ℕ) (heard between heard' : Bool)
    (end : RunEnd) (o : Across) (before : ClockState) (unsaid : ConsoleState)
    → InWords s statuses state moment between heard' end o → ReadsClock (moment ∷ []) before o.clock → moment < 2 ^ 64
    → SpeaksOn (out_pieces (opening_lines s (length statuses))) heard between unsaid o.console
    → DidRun s None statuses state heard heard' (answer_of end) (record o { clock = before; console = unsaid })
ran_so s statuses state moment heard between heard' end o before unsaid w first small opening =
    let times : List ℕ = moment ∷ (times_of w.events ++ w.spare) in
    let g : Gain = record { calls = w.gained; reads = reads_of w.events; times = times } in
    let m : Machine = machine_over s statuses state moment in
    let own : events_in g ≡ w.events = with_own_times w.events w.spare in
    let all : ReadsClock times before o.clock' =
    timed_more (moment ∷ []) (times_of w.events ++ w.spare) before o.clock o.clock' first w.timed in
    record {
      gain = g;
      gains = record {
        calls = w.grew;
        reads = λ tell. record { raw = reads_of w.events; journal = w.read tell; seen_are = refl; right = w.right tell };
        times = λ tell. all.told tell;
        fit = All-cons (λ t. t < 2 ^ 64) moment (times_of w.events ++ w.spare) small w.fit;
      };
      lines = said_by s statuses state g end;
      says = subst
          (λ (es : List Event). SpeaksOn (out_pieces (opening_lines s (length statuses) ++ lines_of s m es end)) heard heard'
          unsaid o.console')
          (sym own)
          (says_more (opening_lines s (length statuses)) (lines_of s m w.events end) heard between heard' unsaid o.console
          o.console' opening w.says);
      runs = inr (record {
        end = end;
        answer = refl;
        runs = record {
          times = omega (arith, length-append (times_of w.events) w.spare, two_times w.events, w.lost);
          run = subst (λ (es : List Event). IsRun s m es) (sym own) w.run;
          ends = subst (λ (es : List Event). Ends s m es w.gained end) (sym own) w.ends;
        };
        says = refl;
      });
    }

-- a run of what a command asks for, after the line of what it began with
pub ran_by : (c : Command) (n : Option MapNames) (l : List ℕ) (end : ℕ) (maps : Maps) (statuses : List Status)
    (state : Option MapState) (moment : ℕ) (heard between heard' : Bool) (ready : RunMemory) (r : RunState) (at : RunEnd)
    (e : Ending) (a : Across) (before : ClockState) (unsaid : ConsoleState) → n ≡ names_by c
    → IsReady c end maps statuses state ready → IsRunOver n l c.options end maps statuses state moment between r
    → WentToEnd r at heard' a → e ≡ answer_of at → ReadsClock (moment ∷ []) before a.clock → moment < 2 ^ 64
    → SpeaksOn (out_pieces (lines_in (option_map (λ line. line.items) ready.opening))) heard between unsaid a.console
    → DidRun (setting_of c l end maps) None statuses state heard heard' e (record a { clock = before; console = unsaid })
ran_by c n l end maps statuses state moment heard between heard' ready r at e a before unsaid named is over w answered first
    small opening =
    let s : Setting = setting_of c l end maps in
    let begun : IsRunOver (names_by c) l c.options end maps statuses state moment between r =
    subst (λ (m : Option MapNames). IsRunOver m l c.options end maps statuses state moment between r) named over in
    let b : Across = record a { clock = before; console = unsaid } in
    subst (λ (x : Ending). DidRun s None statuses state heard heard' x b) (sym answered)
    (ran_so s statuses state moment heard between heard' at a before unsaid
    (in_words c.infile c.outfile (names_by c) l c.options end maps statuses state moment between heard' r at a begun w) first
    small
    (subst (λ (lines : List (List ℕ)). SpeaksOn (out_pieces lines) heard between unsaid a.console) (is.opening l) opening))

-- memory that ran out before a run began
pub ran_unbegun : (s : Setting) (statuses : List Status) (state : Option MapState) (heard : Bool) (a : SourceState)
    (d : SiteState) (k : ClockState) (x : ConsoleState)
    → DidRun s None statuses state heard heard NoMemory
    (record { source = a; source' = a; site = d; site' = d; clock = k; clock' = k; console = x; console' = x })
ran_unbegun s statuses state heard a d k x = record {
  gain = record { calls = []; reads = []; times = [] };
  gains = record {
    calls = λ tell. sym (append-nil d.calls);
    reads = λ tell. record {
      raw = [];
      journal = sym (append-nil a.journal);
      seen_are = refl;
      right = All-nil (IsFrom a.bytes);
    };
    times = λ tell. sym (append-nil k.readings);
    fit = All-nil (λ t. t < 2 ^ 64);
  };
  lines = [];
  says = says_none heard x;
  runs = inl (record { answer = refl; calls = refl; reads = refl; times = refl; silent = refl });
}
