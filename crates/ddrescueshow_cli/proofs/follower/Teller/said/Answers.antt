-- A rescue's line is shown by its figures, and another one passes.
use Rattle.ddrescueshow_cli.specs.Progress.{OfFigures, Passed}
use Rattle.ddrescueshow_cli.proofs.follower.Teller.said.Goals as goal

pub returns-clause-said : goal.returns-clause-said
returns-clause-said c =
    OfFigures c.in-Some.figures c.in-Some.ensures.printed c.in_ok-text-2.ensures.text c.in_ok-text-2.ensures.known

pub returns-in_default-clause-said : goal.returns-in_default-clause-said
returns-in_default-clause-said c =
    Passed (λ head r is_head is_report is. c.in_default.not-Some _ (c.read_line.ensures.read head r is_head is_report is))
    c.in_ok-text.ensures.text c.in_ok-text.ensures.up c.in_ok-text.ensures.size c.in_ok-text.ensures.lately
