-- What a line and a save leave of a run.
use Rattle.std.proofs.Common.{◌≡◌, ℕ, Bool, List, length, sym, ap, subst, ◌∙◌}
use Rattle.block_list.specs.declared.tiles.Tiles.{Ghosts as TilesGhosts}
use Rattle.mapfile_text.specs.declared.heading.Program.TheVariants.{Ddrescue}
use Rattle.rescue_rules.specs.Passes.{passes_from}
use Rattle.rescue_rules.specs.declared.report.Counts.{Counts}
use Rattle.rescue_core.specs.declared.keeper.Keeper.{Keeper}
use Rattle.rescue_core.specs.declared.running.Running.{Running}
use Rattle.rescue_core.specs.RunState.{RunState, setting_with, run_of, IsRunning, HasCounts, IsRun}

-- a run of another value with the same counts
pub alike_run : {T : Type 0} (t : TilesGhosts T) (r r' : Running T) → run_of t r' ≡ run_of t r
    → length r'.buf.items ≡ length r.buf.items → r'.keeper.heading.program ≡ Ddrescue → r'.counts ≡ r.counts
    → IsRun t r → IsRun t r'
alike_run t r r' same room program counts is = record {
  running = subst (λ (n : ℕ). IsRunning (run_of t r') n) (sym room)
      (subst (λ (q : RunState). IsRunning q (length r.buf.items)) (sym same) is.running);
  program = program;
  counted = subst (λ (c : Counts). HasCounts (run_of t r') c) (sym counts)
      (subst (λ (q : RunState). HasCounts q r.counts) (sym same) is.counted);
}

-- a save changes no more than the times of a heading
pub heading_stays : {T : Type 0} (t : TilesGhosts T) (r : Running T) (k : Keeper)
    → k ≡ record r.keeper { heading = k.heading } → k.heading.line ≡ r.keeper.heading.line
    → run_of t (record r { keeper = k }) ≡ run_of t r
heading_stays t r k stands line =
    let with_line : List ℕ → RunState = λ l. record (run_of t r) {
      line = l;
      machine = record (run_of t r).machine {
        passes = passes_from (setting_with r.settings r.domain r.keeper.names l) r.phase r.progress.pass;
      };
    } in
    ap (λ (k : Keeper). run_of t (record r { keeper = k })) stands ∙ ap with_line line

-- a line changes no more than whether the run is heard
heard_runs : (r : RunState) (heard : Bool) (room : ℕ) → IsRunning r room → IsRunning (record r { heard = heard }) room
heard_runs r heard room i = record {
  sound = i.sound;
  suits = i.suits;
  short = i.short;
  cursor = i.cursor;
  skip = i.skip;
  order = i.order;
  pass = i.pass;
  trims = i.trims;
  scrapes = i.scrapes;
  led = i.led;
  room_is = i.room_is;
}

heard_counts : (r : RunState) (heard : Bool) (counts : Counts) → HasCounts r counts
    → HasCounts (record r { heard = heard }) counts
heard_counts r heard counts h = record { counts_are = h.counts_are }

pub heard_run : {T : Type 0} (t : TilesGhosts T) (r : Running T) (k : Keeper) → k ≡ record r.keeper { heard = k.heard }
    → IsRun t r → IsRun t (record r { keeper = k })
heard_run t r k stands is =
    subst (λ (k : Keeper). IsRun t (record r { keeper = k })) (sym stands) (record {
      running = heard_runs (run_of t r) k.heard (length r.buf.items) is.running;
      program = is.program;
      counted = heard_counts (run_of t r) k.heard r.counts is.counted;
    })

pub heard_stands : {T : Type 0} (t : TilesGhosts T) (r : Running T) (k : Keeper)
    → k ≡ record r.keeper { heard = k.heard }
    → run_of t (record r { keeper = k }) ≡ record (run_of t r) { heard = k.heard }
heard_stands t r k stands = ap (λ (k : Keeper). run_of t (record r { keeper = k })) stands
