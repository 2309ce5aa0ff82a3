-- Each line is put after those before it, and one that can't be put is the last.
use Rattle.std.proofs.Common.{arith, ◌∙◌}
use Rattle.rescue_warnings.proofs.PutLemmas.{none_yet, one_more, broke, all_put}
use Rattle.rescue_warnings.proofs.warning.put_warnings.Goals as goal

pub lines-init : goal.lines-init
lines-init g c = none_yet c.args.program.now c.args.names c.args.advices.now (g.P.Console.state c.args.console.now)

pub lines-preserved : goal.lines-preserved
lines-preserved g c =
    one_more c.args.program.now c.args.names c.args.advices.now c.lines.advice-index _ _ _ _ _ _ (omega arith)
    (c.as_slice.ensures.value ∙ c.line_of_advice-line.ensures.text) c.lines.invariant c.in-Ok.ensures

pub returns-in_default : goal.returns-in_default
returns-in_default g c =
    broke c.args.program.now c.args.names c.args.advices.now c.lines.advice-index _ _ _ _ _ _ (omega arith)
    (c.as_slice.ensures.value ∙ c.line_of_advice-line.ensures.text) c.lines.invariant c.in_default.ensures

pub returns : goal.returns
returns g c =
    all_put c.args.program.now c.args.names c.args.advices.now c.lines.advice-index _ _ (omega arith) c.lines.invariant
