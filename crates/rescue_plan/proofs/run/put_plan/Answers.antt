-- The source's own facts say what was put, and its state that they are of this run.
use Rattle.std.proofs.Common.{◌≡◌, rules, ap, ◌∙◌, subst, length, Option}
use Rattle.rescue_console.specs.ConsoleState.{ConsoleState}
use Rattle.plan_source.specs.declared.loss.PlanLoss.{PlanLoss}
use Rattle.plan_source.specs.Printing.{HasPrinted}
use Rattle.rescue_plan.specs.Running.{PutsPlan, end_by}
use Rattle.rescue_plan.proofs.RunLemmas.{run_puts}
use Rattle.rescue_plan.proofs.run.put_plan.Goals as goal

pub returns : goal.returns
returns g c = record {
  puts = λ k limits size begins.
      let s = c.run_rescue-closed.new.source in
      let state = g.C.Console.state in
      let statuses = g.T.Tiles.statuses in
      let went = c.run_rescue-closed.ensures.went in
      let end = c.run_rescue-closed.result.end in
      let ended : c.end_of.result ≡ end_by s.lost end = c.end_of.ensures ∙ ap (λ (lost : Option PlanLoss). end_by lost end) c.lost-lost.ensures in
      subst (λ (x : g.row.C.Denot). PutsPlan k (statuses c.args.tiles) c.end_of.result (state c.args.console.now) (state x))
      {x = s.console.now}
      (search rules)
      (rw ended
      (run_puts k limits c.args.rescue begins end went.events went.run went.gained went.ends
      c.args.length s.length size (statuses c.args.tiles) (statuses s.tiles) _ _ s.entries.items s.name.items s.opened s.idle
      s.opens s.faults s.losses s.lost _ c.since-source.ensures.state c.run_rescue-closed.ensures.source went.read s.seen
      (state c.args.console.now) (state s.console.now)
      (λ on. subst (λ (x : ConsoleState). HasPrinted x (state s.console.now) s.entries.items s.lost) c.requires.start
      (s.printed c.requires.known on))));
}
