use Rattle.std.proofs.Common.{ℕ, sym, ap, ◌∙◌}
use Rattle.mapfile_text.specs.declared.state.Current.{Current}
use Rattle.rescue_rules.specs.declared.tally.Tally.{Tally}
use Rattle.sweep_rules.specs.Sweep.{sweep_from}
use Rattle.fill_generate.specs.SweepState.{SweepState, sweep_at}
use Rattle.fill_generate.proofs.sweeping.Sweeping.begin.Goals as goal

pub returns : goal.returns
returns g c w of =
    let job = c.args.job in
    let begun : ℕ → Tally → SweepState = λ cursor tally. record {
      settings = job.settings;
      domain = job.domain;
      names = job.names;
      line = job.heading.line;
      mode = c.args.mode;
      sweep = sweep_at (g.T.Tiles.statuses job.tiles) cursor tally;
      heard = job.heard;
    } in
    ap (λ (cursor : ℕ). begun cursor c.first.result)
    (c.first_cursor.ensures ∙ ap (λ (k : Current). sweep_from k job.loaded) (c.current.ensures ∙ sym of.current))
    ∙ ap (begun (sweep_from w.current job.loaded)) c.first.ensures
