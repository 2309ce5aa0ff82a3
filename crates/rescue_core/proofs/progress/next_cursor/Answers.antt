use Rattle.std.proofs.Common.{arith, rules, ◌≡◌, false}
use Rattle.std.proofs.lemmas.Grind.{common_steps}
use Rattle.rescue_rules.specs.Step.{trims}
use Rattle.rescue_core.proofs.ProgressLemmas.{cursor_is}
use Rattle.rescue_core.proofs.progress.next_cursor.Goals as goal

pub returns-then-is_up : goal.returns-then-is_up
returns-then-is_up c = λ r e at read jump size.
    let h = cursor_is c.args.settings.now c.args.phase c.args.progress r e c.args.read.request c.args.read.turn.given c.args.read.turn.ended
    c.args.top c.args.jumped at read jump size in
    let up = c.is_up.ensures r.domain r.names r.line c.args.phase in
    let off : trims c.args.phase ≡ false = search rules in
    grind (arith, common_steps, h, up, off)

pub returns-else-is_up : goal.returns-else-is_up
returns-else-is_up c = λ r e at read jump size.
    let h = cursor_is c.args.settings.now c.args.phase c.args.progress r e c.args.read.request c.args.read.turn.given c.args.read.turn.ended
    c.args.top c.args.jumped at read jump size in
    let up = c.is_up.ensures r.domain r.names r.line c.args.phase in
    let off : trims c.args.phase ≡ false = search rules in
    grind (arith, common_steps, h, up, off)
