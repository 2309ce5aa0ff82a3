use Rattle.std.proofs.Common.{sym, ◌∙◌}
use Rattle.rescue_rules.specs.Passes.{numbered}
use Rattle.rescue_core.specs.RunState.{setting_with}
use Rattle.rescue_core.proofs.RequestLemmas.{start_up, start_down}
use Rattle.rescue_core.proofs.request.start_of.Goals as goal

pub returns-then-is_up : goal.returns-then-is_up
returns-then-is_up c =
    λ domain names line phase map end.
    sym (start_up (setting_with c.args.settings.now domain names line) (numbered phase c.args.pass) map
    (sym (c.is_up.ensures domain names line phase) ∙ c.if-is_up.true))

pub returns-else-is_up : goal.returns-else-is_up
returns-else-is_up c =
    λ domain names line phase map end.
    sym (start_down (setting_with c.args.settings.now domain names line) (numbered phase c.args.pass) map
    (sym (c.is_up.ensures domain names line phase) ∙ c.if-is_up.false) ∙ end)
