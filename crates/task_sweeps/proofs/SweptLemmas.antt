-- What a sweep did, in the words of its work, whatever its input and its output are named.
use Rattle.std.proofs.Common.{◌≡◌, ℕ, ◌<◌, ◌^◌, Bool, IsTrue, List, [], ◌∷◌, ◌++◌, map, length, Option, Some, is_none, is_some, option_map, refl, sym, ap, ◌∙◌, inl, inr, subst, append_assoc, append-nil}
use Rattle.std.proofs.Math.Path.{fun_ext}
use Rattle.std.proofs.lemmas.List.Elements.{All-nil, All-cons}
use Rattle.block_list.specs.declared.status.Status.{Status}
use Rattle.block_list.specs.Tiled.{Tiled}
use Rattle.block_list.specs.declared.types.TypeSet.{TypeSet}
use Rattle.mapfile_text.specs.declared.state.MapState.{MapState}
use Rattle.mapfile_text.specs.declared.heading.Program.TheVariants.{Ddrescue}
use Rattle.mapfile_text.specs.HeadingLines.{HeadingLines}
use Rattle.crash_site.specs.declared.site.SiteCall.{SiteCall}
use Rattle.crash_site.specs.Calls.{Call, Entry, Done as Returned}
use Rattle.crash_site.specs.CallsMade.{BrokeAt, call_name}
use Rattle.faulty_source.specs.SourceState.{SourceState}
use Rattle.crash_site.specs.SiteState.{SiteState}
use Rattle.mapfile_save.specs.MapNames.{MapNames, names_in}
use Rattle.rescue_console.specs.ClockState.{ClockState, Reads as ReadsClock}
use Rattle.rescue_console.specs.ConsoleState.{ConsoleState}
use Rattle.rescue_console.specs.Speaking.{SpeaksOn, out_pieces}
use Rattle.rescue_domain.specs.Parts.{covers}
use Rattle.rescue_rules.specs.declared.stop.RunEnd.{RunEnd}
use Rattle.rescue_rules.specs.declared.stop.RunEnd.TheVariants.{Done as Finished}
use Rattle.rescue_rules.specs.Across.{Across, across}
use Rattle.rescue_rules.specs.Setting.{Setting}
use Rattle.rescue_rules.specs.Nameless.{nameless}
use Rattle.rescue_rules.specs.RunCalls.{closing_calls}
use Rattle.rescue_rules.specs.Lines.{opening_lines}
use Rattle.rescue_rules.specs.Snapshots.{heading_at}
use Rattle.rescue_rules.specs.Deeds.{save_of, doing_calls}
use Rattle.run_options.specs.declared.settings.Settings.{Settings}
use Rattle.run_options.specs.Settings.{Suits}
use Rattle.rescue_console.proofs.SpeakingLemmas.{says_none}
use Rattle.sweep_rules.specs.Sweep.{Sweeper, Sweep, Swept, filler, generator, sweep_over, after_pieces, due_save, sweep_end, deeds_of}
use Rattle.sweep_rules.specs.SweepWork.{SweepEnds, IsSaved, IsUnsaved, IsCut, IsBroken, sweep_calls, sweep_lines, lost_call}
use Rattle.rescue_core.proofs.ObjectLemmas.{timed_more, says_more}
use Rattle.fill_generate.specs.declared.job.Job.{Job}
use Rattle.fill_generate.specs.SweepState.{setting_for}
use Rattle.fill_generate.specs.Sweeping.{BreaksAfter, EndsSweep, Saved, Unsaved, Cut, Broken, SweepTold, LookupTold, times_after}
use Rattle.program_promise.proofs.GainLemmas.{MayGain, may_gain, broke_after}
use Rattle.ddrescue_words.specs.declared.options.Options.{Options}
use Rattle.ddrescue_words.specs.Command.{Command}
use Rattle.task_sweeps.specs.declared.sweep.SweepReady.{SweepReady}
use Rattle.task_files.specs.declared.ending.Ending.{Ending}
use Rattle.task_files.specs.declared.ending.Ending.TheVariants.{NoMemory}
use Rattle.task_files.specs.Asked.{Maps, domain_asked, names_by, setting_of}
use Rattle.task_files.specs.Settings.{lines_in, settings_by}
use Rattle.task_files.specs.Work.{answer_of}
use Rattle.task_sweeps.specs.Modes.{fill_setting}
use Rattle.task_sweeps.specs.SweepSteps.{IsSweepReady, IsJobOver, DidSweep, DidGenerate}
use Rattle.task_sweeps.proofs.SweepNames.{sweep_named, ends_named, lines_named}

-- ---- its calls, whether the site tells them or not

record BreaksCalls (at : SiteCall) (made calls : List Call) (site site' : SiteState) : Type 0 where
  all : List Entry
  grew : IsTrue site.tells → site'.calls ≡ site.calls ++ all
  broke : BrokeAt at calls (map Returned made) all

breaks_calls : (at : SiteCall) (made calls : List Call) (site site' : SiteState) → BreaksAfter at made calls site site'
    → BreaksCalls at made calls site site'
breaks_calls at made calls site site' b =
    let front : List Entry = map Returned made in
    let g : MayGain site.tells at calls (site.calls ++ front) site'.calls =
    may_gain site.tells at calls (site.calls ++ front) site'.calls b.named b.broke in
    let Q : List Entry → Type 0 = λ from. BrokeAt at calls from (front ++ g.more) in
    record {
      all = front ++ g.more;
      grew = λ t. g.grew t ∙ append_assoc site.calls front g.more;
      broke = subst Q (append-nil front) (broke_after at calls front [] g.more g.broke);
    }

record EndsCalls (s : Setting) (w : Sweeper) (m : Sweep) (es : List Swept) (end : RunEnd) (site site' : SiteState)
    : Type 0 where
  calls : List Entry
  grew : IsTrue site.tells → site'.calls ≡ site.calls ++ calls
  ends : SweepEnds s w m es calls end

ends_calls : (s : Setting) (w : Sweeper) (m : Sweep) (es : List Swept) (end : RunEnd) (site site' : SiteState)
    → EndsSweep s w m es end site site' → EndsCalls s w m es end site site'
ends_calls s w m es end site site' (Saved stop by is makes) = record {
  calls = map Returned (doing_calls s (deeds_of w m es) (sweep_end (is_none stop) (after_pieces w m es)));
  grew = makes.made;
  ends = IsSaved stop by is refl;
}
ends_calls s w m es end site site' (Unsaved stop call by is breaks) =
    let made : List Call = sweep_calls s w m es in
    let calls : List Call = closing_calls s (sweep_end (is_none stop) (after_pieces w m es)) in
    let b : BreaksCalls call made calls site site' = breaks_calls call made calls site site' breaks in
    record { calls = b.all; grew = b.grew; ends = IsUnsaved stop call by is b.broke }
ends_calls s w m es end site site' (Cut p q piece is breaks) =
    let at : SiteCall = call_name (lost_call w p q) in
    let made : List Call = sweep_calls s w m es in
    let b : BreaksCalls at made (lost_call w p q ∷ []) site site' =
    breaks_calls at made (lost_call w p q ∷ []) site site' breaks in
    record { calls = b.all; grew = b.grew; ends = IsCut p q piece is b.broke }
ends_calls s w m es end site site' (Broken before last call split is breaks) =
    let made : List Call = sweep_calls s w m before ++ w.call last ∷ [] in
    let calls : List Call = save_of s (due_save w (after_pieces w m before) last) in
    let b : BreaksCalls call made calls site site' = breaks_calls call made calls site site' breaks in
    record { calls = b.all; grew = b.grew; ends = IsBroken before last call split is b.broke }

-- ---- its setting

-- what a job asks for is what the command does, but for the names of its files
job_setting : (c : Command) (n : MapNames) (h : HeadingLines) (limit : ℕ) (maps : Maps) (statuses : List Status)
    (state : Option MapState) (moment : ℕ) (heard : Bool) (job : Job Tiled) → names_by c ≡ Some n
    → IsJobOver n h c.options limit maps statuses state moment heard job
    → setting_for job.settings job.domain job.names job.heading.line ≡ nameless (setting_of c h.line limit maps)
job_setting c n h limit maps statuses state moment heard job named is =
    let domain : ℕ → Bool = domain_asked c.options limit maps in
    let positions : covers job.domain ≡ domain = fun_ext is.domain in
    let names : Some job.names ≡ names_by c = ap (λ (m : MapNames). Some m) is.names_are ∙ sym named in
    let S : Settings → Setting = λ settings. setting_for settings job.domain job.names job.heading.line in
    let D : (ℕ → Bool) → Setting = λ inside. record (S (settings_by c.options)) { domain = inside } in
    let N : Option MapNames → Setting = λ m. record (D domain) { has_mapfile = is_some m; names = names_in m } in
    let L : HeadingLines → Setting = λ heading. record (N (names_by c)) { line = heading.line } in
    ap S is.settings_are ∙ ap D positions ∙ ap N names ∙ ap L is.heading_is

-- what a job needs to be done
pub job_suits : (n : MapNames) (h : HeadingLines) (o : Options) (limit : ℕ) (maps : Maps) (statuses : List Status)
    (state : Option MapState) (moment : ℕ) (heard : Bool) (job : Job Tiled)
    → IsJobOver n h o limit maps statuses state moment heard job
    → Suits job.settings (covers job.domain) (length job.tiles.statuses)
job_suits n h o limit maps statuses state moment heard job is =
    subst (λ (map : List Status). Suits job.settings (covers job.domain) (length map)) (sym is.map) is.suits

pub job_heading : (n : MapNames) (h : HeadingLines) (o : Options) (limit : ℕ) (maps : Maps) (statuses : List Status)
    (state : Option MapState) (moment : ℕ) (heard : Bool) (job : Job Tiled)
    → IsJobOver n h o limit maps statuses state moment heard job → h ≡ heading_at h.line 0 0
    → job.heading.program ≡ Ddrescue
job_heading n h o limit maps statuses state moment heard job is own =
    ap (λ (l : HeadingLines). l.program) (is.heading_is ∙ own)

-- so what holds of the job holds of what the command asks for
over_job : (P : Setting → List Status → Option MapState → (moment : ℕ) → (heard : Bool) → Type 0) (c : Command)
    (n : MapNames) (h : HeadingLines) (limit : ℕ) (maps : Maps) (statuses : List Status) (state : Option MapState)
    (moment : ℕ) (heard : Bool) (job : Job Tiled) → names_by c ≡ Some n
    → IsJobOver n h c.options limit maps statuses state moment heard job
    → P (setting_for job.settings job.domain job.names job.heading.line) job.tiles.statuses job.loaded job.moment job.heard
    → P (nameless (setting_of c h.line limit maps)) statuses state moment heard
over_job P c n h limit maps statuses state moment heard job named is holds =
    let t : Setting = setting_for job.settings job.domain job.names job.heading.line in
    let same : t ≡ nameless (setting_of c h.line limit maps) =
    job_setting c n h limit maps statuses state moment heard job named is in
    subst (λ (x : Setting). P x statuses state moment heard) same
    (subst (λ (x : Bool). P t statuses state moment x) is.heard_is
    (subst (λ (x : ℕ). P t statuses state x job.heard) is.moment_is
    (subst (λ (x : Option MapState). P t statuses x job.moment job.heard) is.state_is
    (subst (λ (x : List Status). P t x job.loaded job.moment job.heard) is.map holds))))

-- ---- a sweep after the line of what it began with

-- what is told from before its first reading and that line on; its input stays as it is
abbrev begun_at : Across → SourceState → ClockState → ConsoleState → Across
begun_at o source clock console =
    across source source o.site o.site' clock o.clock' console o.console'

module _ (s : Setting) (w : Sweeper) (statuses : List Status) (state : Option MapState) where
  did_sweep : (moment : ℕ) (heard between_ heard' : Bool) (end : RunEnd) (e : Ending) (o : Across) (source : SourceState)
      (before : ClockState) (unsaid : ConsoleState) → SweepTold (nameless s) w (sweep_over w statuses state moment) between_ heard' end o
      → e ≡ answer_of end → ReadsClock (moment ∷ []) before o.clock → moment < 2 ^ 64
      → SpeaksOn (out_pieces (opening_lines s (length statuses))) heard between_ unsaid o.console
      → DidSweep s w statuses state heard heard' e (begun_at o source before unsaid)
  did_sweep moment heard between_ heard' end e o source before unsaid t answered first small opening =
      let m : Sweep = sweep_over w statuses state moment in
      let c : EndsCalls (nameless s) w m t.events end o.site o.site' =
      ends_calls (nameless s) w m t.events end o.site o.site' t.ends in
      let all : ReadsClock (moment ∷ times_after t.events) before o.clock' =
      timed_more (moment ∷ []) (times_after t.events) before o.clock o.clock' first t.timed in
      record {
        gain = record { calls = c.calls; reads = []; times = moment ∷ times_after t.events };
        gains = record {
          unread = refl;
          calls = c.grew;
          reads = refl;
          times = λ tell. all.told tell;
          fit = All-cons (λ n. n < 2 ^ 64) moment (times_after t.events) small t.fit;
        };
        pieces = t.events;
        end = end;
        lines = opening_lines s (length statuses) ++ sweep_lines s w m t.events end;
        says = says_more (opening_lines s (length statuses)) (sweep_lines s w m t.events end) heard between_ heard' unsaid
            o.console o.console' opening
            (subst (λ (lines : List (List ℕ)). SpeaksOn (out_pieces lines) between_ heard' o.console o.console')
            (lines_named s w m t.events end) t.says);
        sweeps = inr (record {
          answer = answered;
          sweeps = record {
            events = t.events;
            times = refl;
            reads = refl;
            run = sweep_named s w m t.events t.run;
            ends = ends_named s w m t.events c.calls end c.ends;
          };
          pieces_are = refl;
          says = refl;
        });
      }

  -- memory ran out before it began
  pub swept_none : (heard : Bool) (a : SourceState) (d : SiteState) (k : ClockState) (x : ConsoleState)
      → DidSweep s w statuses state heard heard NoMemory (across a a d d k k x x)
  swept_none heard a d k x = record {
    gain = record { calls = []; reads = []; times = [] };
    gains = record {
      unread = refl;
      calls = λ tell. sym (append-nil d.calls);
      reads = refl;
      times = λ tell. sym (append-nil k.readings);
      fit = All-nil (λ n. n < 2 ^ 64);
    };
    pieces = [];
    end = Finished;
    lines = [];
    says = says_none heard x;
    sweeps = inl (record { answer = refl; calls = refl; reads = refl; times = refl; silent = refl }, refl);
  }

-- what a filling did that was asked for by a job
pub filled_so : (c : Command) (n : MapNames) (h : HeadingLines) (top : ℕ) (maps : Maps) (statuses : List Status)
    (state : Option MapState) (moment : ℕ) (heard between_ heard' : Bool) (types : TypeSet) (buffer : List ℕ)
    (ready : SweepReady) (job : Job Tiled) (end : RunEnd) (e : Ending) (o : Across) (source : SourceState)
    (before : ClockState) (unsaid : ConsoleState) → names_by c ≡ Some n → IsSweepReady c top maps statuses state ready
    → IsJobOver n h c.options top maps statuses state moment between_ job
    → (let t = setting_for job.settings job.domain job.names job.heading.line in
    let w = filler t types buffer in
    SweepTold t w (sweep_over w job.tiles.statuses job.loaded job.moment) job.heard heard' end o)
    → e ≡ answer_of end → ReadsClock (moment ∷ []) before o.clock → moment < 2 ^ 64
    → SpeaksOn (out_pieces (lines_in (option_map (λ line. line.items) ready.opening))) heard between_ unsaid o.console
    → DidSweep (fill_setting c h.line top maps) (filler (fill_setting c h.line top maps) types buffer) statuses state heard
    heard' e (begun_at o source before unsaid)
filled_so c n h top maps statuses state moment heard between_ heard' types buffer ready job end e o source before unsaid named is
    over told answered first small opening =
    let P : Setting → List Status → Option MapState → ℕ → Bool → Type 0 = λ t map loaded time listens.
    SweepTold t (filler t types buffer) (sweep_over (filler t types buffer) map loaded time) listens heard' end o in
    let s : Setting = fill_setting c h.line top maps in
    did_sweep s (filler s types buffer) statuses state moment heard between_ heard' end e o source before unsaid
    (over_job P c n h top maps statuses state moment between_ job named over told) answered first small
    (subst (λ (lines : List (List ℕ)). SpeaksOn (out_pieces lines) heard between_ unsaid o.console) (is.opening h.line)
    opening)

-- and a generating
pub generated_so : (c : Command) (n : MapNames) (h : HeadingLines) (limit : ℕ) (maps : Maps) (statuses : List Status)
    (state : Option MapState) (moment : ℕ) (heard between_ heard' : Bool) (ready : SweepReady) (job : Job Tiled)
    (end : RunEnd) (e : Ending) (o : Across) (source : SourceState) (before : ClockState) (unsaid : ConsoleState)
    → names_by c ≡ Some n
    → IsSweepReady c limit maps statuses state ready
    → IsJobOver n h c.options limit maps statuses state moment between_ job
    → (let t = setting_for job.settings job.domain job.names job.heading.line in
    let w = generator t in
    LookupTold t w (sweep_over w job.tiles.statuses job.loaded job.moment) job.heard heard' end o)
    → e ≡ answer_of end → ReadsClock (moment ∷ []) before o.clock → moment < 2 ^ 64
    → SpeaksOn (out_pieces (lines_in (option_map (λ line. line.items) ready.opening))) heard between_ unsaid o.console
    → DidGenerate (setting_of c h.line limit maps) statuses state heard heard' e (begun_at o source before unsaid)
unfolding did_sweep
generated_so c n h limit maps statuses state moment heard between_ heard' ready job end e o source before unsaid named is over
    told answered first small opening =
    let P : Setting → List Status → Option MapState → ℕ → Bool → Type 0 = λ t map loaded time listens.
    LookupTold t (generator t) (sweep_over (generator t) map loaded time) listens heard' end o in
    let s : Setting = setting_of c h.line limit maps in
    let l : LookupTold (nameless s) (generator s) (sweep_over (generator s) statuses state moment) between_ heard' end o =
    over_job P c n h limit maps statuses state moment between_ job named over told in
    record {
      did = did_sweep s (generator s) statuses state moment heard between_ heard' end e o source before unsaid l.sweeps answered
          first small
          (subst (λ (lines : List (List ℕ)). SpeaksOn (out_pieces lines) heard between_ unsaid o.console)
          (is.opening h.line) opening);
      given = l.given;
    }

-- memory ran out before it began
pub generated_none : (s : Setting) (statuses : List Status) (state : Option MapState) (heard : Bool) (a : SourceState)
    (d : SiteState) (k : ClockState) (x : ConsoleState)
    → DidGenerate s statuses state heard heard NoMemory (across a a d d k k x x)
unfolding swept_none
generated_none s statuses state heard a d k x = record {
  did = swept_none s (generator s) statuses state heard a d k x;
  given = λ tells apart. All-nil _;
}
