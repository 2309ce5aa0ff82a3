-- What was put, and what comes, is the whole row.
use Rattle.std.proofs.Common.{◌+◌, ◌-◌, ◌∙◌, arith}
use Rattle.ddrescueshow_cli.proofs.RunLemmas.{walk_begins, walk_ends, walk_goes_on}
use Rattle.ddrescueshow_cli.proofs.runs.add_runs.Goals as goal

pub loop-done-init : goal.loop-done-init
loop-done-init g c = record {
  comes = walk_begins _ _ _ c.args.first (c.args.first + 1) c.args.count (c.args.count - 1) _ (omega arith)
      (omega arith) c.mark_of.ensures;
  place = omega arith;
  within = omega arith;
}

pub loop-done-preserved : goal.loop-done-preserved
loop-done-preserved g c = record {
  comes = walk_goes_on _ _ _ _ _ _ _ (c.args.first + c.loop-done.done) (c.args.first + (c.loop-done.done + 1))
      (c.args.count - c.loop-done.done) (c.args.count - (c.loop-done.done + 1)) _ (omega arith) (omega arith)
      c.mark_of-shown.ensures c.loop-done.invariant.comes c.in_ok-run.ensures.adds;
  place = omega (arith, c.in_ok-run.ensures.place, c.loop-done.invariant.place);
  within = omega arith;
}

pub returns : goal.returns
returns g c =
    c.in_ok-add_run.ensures ∙ walk_ends _ _ _ _ _ _ (c.args.count - c.loop-done.done) (omega arith) c.loop-done.invariant.comes
