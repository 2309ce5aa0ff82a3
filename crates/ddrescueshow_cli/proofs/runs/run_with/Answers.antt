-- By whether the next cell shows the same.
use Rattle.std.proofs.Common.{sym, ◌∙◌}
use Rattle.ddrescueshow_cli.specs.Picture.{run_text}
use Rattle.ddrescueshow_cli.proofs.RunLemmas.{run_ends, run_goes_on}
use Rattle.ddrescueshow_cli.proofs.runs.run_with.Goals as goal

pub returns-then-shows_same-clause-adds : goal.returns-then-shows_same-clause-adds
returns-then-shows_same-clause-adds c = λ ms.
    run_goes_on (run_text c.args.form) c.args.text.now.items c.args.run c.args.shown ms
    (sym c.shows_same.ensures ∙ c.if-shows_same.true)

pub returns-clause-adds : goal.returns-clause-adds
returns-clause-adds c = λ ms.
    run_ends (run_text c.args.form) c.args.text.now.items c.args.run c.args.shown ms
    (sym c.shows_same.ensures ∙ c.if-shows_same.false) _ c.in_ok-add_run.ensures
