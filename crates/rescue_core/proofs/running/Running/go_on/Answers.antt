use Rattle.std.proofs.Common.{◌≡◌, ◌∙◌, ◌/◌, refl, sym, ap, arith}
use Rattle.mapfile_text.specs.declared.state.MapState.{MapState}
use Rattle.rescue_rules.specs.declared.progress.Progress.{Progress}
use Rattle.rescue_rules.specs.Passes.{Pass, current_of}
use Rattle.rescue_rules.specs.Machine.{Machine}
use Rattle.rescue_rules.specs.Said.{is_line_due}
use Rattle.rescue_rules.specs.Step.{step}
use Rattle.rescue_core.specs.RunState.{RunState, setting_in, run_of}
use Rattle.rescue_core.proofs.TurnLemmas.{request_fits, run_steps}
use Rattle.rescue_core.proofs.TurnedLemmas.{stands_at, read_of, asks_on, run_goes, goes_on}
use Rattle.rescue_core.proofs.running.Running.go_on.Goals as goal

pub overflow_add-end : goal.overflow_add-end
overflow_add-end g c =
    let may = c.requires.gathered in
    let fits = request_fits (run_of g.T.Tiles c.args.self.now) _ c.args.request.pos c.args.request.len may.run.running
    may.next in
    omega (arith, fits.short)

pub mark-met-requires : goal.mark-met-requires
mark-met-requires g c =
    let r = c.args.self.now in
    let may = c.requires.gathered in
    let fits = request_fits (run_of g.T.Tiles r) _ c.args.request.pos c.args.request.len may.run.running may.next in
    record { spans = may.spans; within = fits.there; back = fits.back; spare = c.requires.spare }

pub progress_after-requires : goal.progress_after-requires
progress_after-requires g c =
    let r = c.args.self.now in
    let may = c.requires.gathered in
    let fits = request_fits (run_of g.T.Tiles r) _ c.args.request.pos c.args.request.len may.run.running may.next in
    record {
      sound = may.run.running.sound;
      skip = may.run.running.skip;
      within = omega (arith, fits.there, c.end-top.ensures.end);
      given = may.given;
      short = omega (arith, may.run.running.short, c.end-top.ensures.end);
    }

pub returns : goal.returns
returns g c = λ e is.
    let t = g.T.Tiles in
    let r = c.args.self.now in
    let b : RunState = run_of t r in
    let n : Machine = step (setting_in b) b.machine e in
    let after = record r {
      tiles = c.mark-met.new.tiles;
      progress = c.progress_after.new.progress;
      counts = c.count_after.new.counts;
      keeper = record r.keeper { tally = c.tally_after-speaks.new.tally };
    } in
    let run = c.requires.gathered.run in
    let next = c.requires.gathered.next in
    let at = stands_at t r c.args.phase run c.requires.phase in
    let read = read_of c.args.request b c.args.gathered e is in
    let marks = c.mark-met.ensures.map b e.reading at refl is.pos is.cut in
    let met = c.mark-met.ensures.end e.reading is.cut in
    let place : c.progress_after.new.progress ≡ n.progress
    = c.progress_after.ensures b e at read is.turn (sym c.end-top.ensures.end)
    (λ trims. c.trims_on-more.ensures trims
    ∙ asks_on t r c.args.phase c.args.request _ n.map run next c.requires.phase marks) in
    let shown : c.shown_at-shown.result ≡ n.tally.shown
    = c.shown_at-shown.ensures
    ∙ ap (λ (q : Progress). record { pos = q.cursor; current = current_of c.args.phase; pass = q.pass }) place
    ∙ ap (λ (p : Pass). record { pos = n.progress.cursor; current = current_of p.phase; pass = p.number })
    (sym at.pass) in
    let tally = c.tally_after-speaks.ensures.tally b e refl is.turn is.after shown met in
    let steps = run_steps t r _ _ _ e marks place tally in
    let counted = c.count_after.ensures b e r.keeper.heard run.counted (record {
      room = _;
      running = run.running;
      phase_is = sym c.requires.phase;
      asks = next;
      read = read;
      few = is.few;
      answers = is.turn;
      domain_is = refl;
      over_is = refl;
      map_is = marks;
    }) met in (
      goes_on t r after c.args.request c.args.gathered e c.args.phase _ run is c.requires.phase steps refl
          (c.tally_after-speaks.ensures.speaks
          ∙ ap (λ (shown : MapState). is_line_due r.keeper.tally.said shown.current (c.args.gathered.after / 1000))
          c.shown_at-shown.ensures)
          (c.tally_after-speaks.ensures.saves b.machine e refl is.after),
      run_goes t r after c.args.request c.args.gathered e run next is steps refl run.program counted,
    )
