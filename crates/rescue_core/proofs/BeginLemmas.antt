-- A run at its start, and at the start of its next pass.
use Rattle.std.proofs.Common.{◌≡◌, ℕ, ◌<◌, min, Bool, true, ◌&&◌, nat_eq, List, ◌∷◌, ◌^◌, length, drop, Option, Some, None, refl, sym, ap, subst, ◌∙◌, arith, ⊎_elim}
use Rattle.std.specs.List.{slice_get}
use Rattle.std.proofs.Math.Bool.{and-true}
use Rattle.std.proofs.Math.Path.{fun_ext}
use Rattle.std.proofs.lemmas.Bool.{cond-true, eq-eqb}
use Rattle.block_list.specs.declared.status.Status.{Status}
use Rattle.block_list.specs.declared.tiles.Tiles.{Ghosts as TilesGhosts}
use Rattle.mapfile_text.specs.declared.heading.Program.TheVariants.{Ddrescue}
use Rattle.mapfile_text.specs.declared.state.MapState.{MapState}
use Rattle.faulty_source.specs.Ends.{is_before}
use Rattle.rescue_rules.specs.declared.phase.Phase.{Phase}
use Rattle.rescue_rules.specs.declared.phase.Phase.TheVariants.{Copying, Trimming, Scraping}
use Rattle.rescue_rules.specs.declared.stop.TrimMode.{TrimMode}
use Rattle.rescue_rules.specs.declared.stop.TrimMode.TheVariants.{Lead}
use Rattle.rescue_rules.specs.Setting.{Setting}
use Rattle.rescue_rules.specs.Passes.{Pass, numbered, passes_from}
use Rattle.rescue_rules.specs.Machine.{Machine, pass_of, start_of, is_live}
use Rattle.rescue_rules.specs.Beginning.{first_pass, first_cursor}
use Rattle.rescue_domain.specs.Parts.{covers}
use Rattle.run_options.specs.Settings.{IsSound, Suits}
use Rattle.rescue_rules.specs.declared.progress.Progress.{Progress}
use Rattle.rescue_rules.specs.Counts.{counts_of}
use Rattle.rescue_rules.proofs.FitLemmas.{first_few, first_there, start_there}
use Rattle.rescue_rules.proofs.ReadyLemmas.{order_lead}
use Rattle.rescue_core.specs.declared.running.Running.{Running}
use Rattle.rescue_core.specs.RunState.{RunState, setting_in, run_of, IsRunning, HasCounts, IsRun, passed}
use Rattle.rescue_core.proofs.RequestLemmas.{start_up}
use Rattle.rescue_core.proofs.PassLemmas.{next_passes, IsOn, next_on, copying_leads}

-- the phase of the next pass isn't off
trims_on : (r : RunState) (room : ℕ) (p : Pass) → IsRunning r room → IsOn (setting_in r) r.phase p → p.phase ≡ Trimming
    → r.settings.passes.trims ≡ true
trims_on r room p running on is =
    ⊎_elim (λ (here : r.phase ≡ Trimming). running.trims here) (λ some. some) (on.trims is)

scrapes_on : (r : RunState) (room : ℕ) (p : Pass) → IsRunning r room → IsOn (setting_in r) r.phase p → p.phase ≡ Scraping
    → r.settings.passes.scrapes ≡ true
scrapes_on r room p running on is =
    ⊎_elim (λ (here : r.phase ≡ Scraping). running.scrapes here) (λ some. some) (on.scrapes is)

-- a run goes on to its next pass
pub running_passed : (r : RunState) (room : ℕ) (phase : Phase) (pass : ℕ) → r.machine.passes ≡ passes_from (setting_in r) r.phase r.pass
    → IsRunning r room → slice_get r.machine.passes 1 ≡ Some (numbered phase pass) → IsRunning (passed r phase pass) room
running_passed r room phase pass passes running next =
    let on : IsOn (setting_in r) r.phase (numbered phase pass)
    = next_on (setting_in r) r.phase r.pass (numbered phase pass) (ap (λ (ps : List Pass). slice_get ps 1) (sym passes) ∙ next) in
    record {
      sound = running.sound;
      suits = running.suits;
      short = running.short;
      cursor = start_there (setting_in r) (numbered phase pass) r.machine.map;
      skip = running.sound.skip;
      order = order_lead (setting_in r) (passed r phase pass).machine refl;
      pass = refl;
      trims = trims_on r room (numbered phase pass) running on;
      scrapes = scrapes_on r room (numbered phase pass) running on;
      led = λ trims up x below inside has.
          absurd (omega (arith, below, start_up (setting_in r) (numbered phase pass) r.machine.map up));
      room_is = running.room_is;
    }

abbrev at_pass : RunState → Phase → ℕ → List Pass → ℕ → TrimMode → ℕ → RunState
at_pass r phase pass passes cursor mode skip = record r {
  phase = phase;
  pass = pass;
  machine = record r.machine {
    passes = passes;
    progress = record { pass = pass; cursor = cursor; mode = mode; skip = skip };
  };
}

pub passed_is : {T : Type 0} (t : TilesGhosts T) (r : Running T) (phase : Phase) (pass : ℕ) (progress : Progress)
    → slice_get (run_of t r).machine.passes 1 ≡ Some (numbered phase pass)
    → progress.pass ≡ pass
    → progress.cursor ≡ start_of (setting_in (run_of t r)) (numbered phase pass) (t.statuses r.tiles)
    → progress.mode ≡ Lead → progress.skip ≡ r.settings.skips.first
    → run_of t (record r { phase = phase; progress = progress }) ≡ passed (run_of t r) phase pass
passed_is t r phase pass progress next is begins lead skip =
    let q : RunState = run_of t r in
    let s : Setting = setting_in q in
    ap (λ (n : ℕ). at_pass q phase n (passes_from s phase n) progress.cursor progress.mode progress.skip) is
    ∙ ap (λ (ps : List Pass). at_pass q phase pass ps progress.cursor progress.mode progress.skip)
    (next_passes s r.phase r.progress.pass (numbered phase pass) next)
    ∙ ap (λ (n : ℕ). at_pass q phase pass (numbered phase pass ∷ drop 2 q.machine.passes) n progress.mode progress.skip)
    begins
    ∙ ap (λ (mode : TrimMode). at_pass q phase pass (numbered phase pass ∷ drop 2 q.machine.passes)
    (start_of s (numbered phase pass) q.machine.map) mode progress.skip) lead
    ∙ ap (λ (n : ℕ). at_pass q phase pass (numbered phase pass ∷ drop 2 q.machine.passes)
    (start_of s (numbered phase pass) q.machine.map) Lead n) skip

pub run_passed : {T : Type 0} (t : TilesGhosts T) (r r' : Running T) (phase : Phase) (pass : ℕ) → IsRun t r
    → slice_get (run_of t r).machine.passes 1 ≡ Some (numbered phase pass)
    → run_of t r' ≡ passed (run_of t r) phase pass → length r'.buf.items ≡ length r.buf.items
    → r'.keeper.heading.program ≡ Ddrescue → r'.counts ≡ r.counts
    → IsRun t r'
run_passed t r r' phase pass is next begins room program counts = record {
  running = subst (λ (now : RunState). IsRunning now (length r'.buf.items)) (sym begins)
      (running_passed (run_of t r) (length r'.buf.items) phase pass refl
      (subst (λ (n : ℕ). IsRunning (run_of t r) n) (sym room) is.running) next);
  program = program;
  counted = subst (λ (now : RunState). HasCounts now r'.counts) (sym begins)
      (record { counts_are = counts ∙ is.counted.counts_are });
}

-- where a run begins
pub first_none : (s : Setting) (loaded : Option MapState) (map : List Status) (cursor : ℕ) → loaded ≡ None
    → cursor ≡ start_of s (numbered Copying 1) map → cursor ≡ first_cursor s loaded map
first_none s loaded map cursor is begins =
    begins ∙ ap (λ (o : Option MapState). first_cursor s o map) (sym is)

pub first_last : (s : Setting) (loaded : Option MapState) (state : MapState) (map : List Status) (pass cursor : ℕ)
    → loaded ≡ Some state → pass ≡ min state.pass 5 → pass ≡ 5 → cursor ≡ start_of s (numbered Copying pass) map
    → cursor ≡ first_cursor s loaded map
first_last s loaded state map pass cursor is least last begins =
    begins
    ∙ ap (λ (n : ℕ). start_of s (numbered Copying n) map) last
    ∙ sym (cond-true (nat_eq (min state.pass 5) 5) (start_of s (numbered Copying 5) map) (min state.pos (length map))
    (eq-eqb (min state.pass 5) 5 (sym least ∙ last)))
    ∙ ap (λ (o : Option MapState). first_cursor s o map) (sym is)

running_started : {T : Type 0} (t : TilesGhosts T) (r : Running T) (loaded : Option MapState) (room : ℕ)
    → r.phase ≡ Copying → IsSound r.settings → Suits r.settings (covers r.domain) (length (t.statuses r.tiles))
    → length (t.statuses r.tiles) < 2 ^ 63 → r.progress.pass ≡ first_pass loaded
    → r.progress.cursor ≡ first_cursor (setting_in (run_of t r)) loaded (t.statuses r.tiles)
    → r.progress.mode ≡ Lead → r.progress.skip ≡ r.settings.skips.first → room ≡ r.settings.cluster
    → IsRunning (run_of t r) room
running_started t r loaded room copies sound suits short pass cursor lead skip size =
    let s : Setting = setting_in (run_of t r) in
    let m : Machine = (run_of t r).machine in
    record {
      sound = sound;
      suits = suits;
      short = short;
      cursor = omega (arith, cursor, first_there s loaded (t.statuses r.tiles));
      skip = omega (arith, skip, sound.skip);
      order = order_lead s m lead;
      pass = subst (λ (phase : Phase). pass_of (record m { passes = passes_from s phase r.progress.pass })
          ≡ numbered phase r.progress.pass) (sym copies)
          (copying_leads s r.progress.pass (omega (arith, pass, first_few loaded)));
      trims = λ is. absurd (let no : Copying ≡ Trimming = sym copies ∙ is in cc);
      scrapes = λ is. absurd (let no : Copying ≡ Scraping = sym copies ∙ is in cc);
      led = λ is. absurd (let no : Copying ≡ Trimming = sym copies ∙ is in cc);
      room_is = size;
    }

-- and its counts are those of its whole map
all_live : (s : Setting) (m : Machine) → m.tally.over ≡ None → is_live s m ≡ s.domain
all_live s m none = fun_ext (λ x. ap (λ (o : Option ℕ). s.domain x && is_before o x) none ∙ and-true (s.domain x))

pub run_started : {T : Type 0} (t : TilesGhosts T) (r : Running T) (loaded : Option MapState) → r.phase ≡ Copying
    → IsSound r.settings → Suits r.settings (covers r.domain) (length (t.statuses r.tiles))
    → length (t.statuses r.tiles) < 2 ^ 63 → r.progress.pass ≡ first_pass loaded
    → r.progress.cursor ≡ first_cursor (setting_in (run_of t r)) loaded (t.statuses r.tiles)
    → r.progress.mode ≡ Lead → r.progress.skip ≡ r.settings.skips.first → length r.buf.items ≡ r.settings.cluster
    → r.keeper.heading.program ≡ Ddrescue → r.keeper.tally.over ≡ None
    → r.counts ≡ counts_of (covers r.domain) (t.statuses r.tiles) → IsRun t r
run_started t r loaded copies sound suits short pass cursor lead skip size program none counts = record {
  running = running_started t r loaded (length r.buf.items) copies sound suits short pass cursor lead skip size;
  program = program;
  counted = record {
    counts_are = counts ∙ ap (λ (set : ℕ → Bool). counts_of set (t.statuses r.tiles))
        (sym (all_live (setting_in (run_of t r)) (run_of t r).machine none));
  };
}
