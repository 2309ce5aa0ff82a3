-- Where a run is after a read, by the parts of its place.
use Rattle.std.proofs.Common.{◌≡◌, ℕ, ◌+◌, ◌-◌, min, Bool, length, cond, ap}
use Rattle.transfer_token.specs.declared.token.Request.{Request}
use Rattle.rescue_rules.specs.declared.phase.Phase.{Phase}
use Rattle.rescue_rules.specs.declared.progress.Progress.{Progress}
use Rattle.rescue_rules.specs.Passes.{is_up, numbered}
use Rattle.rescue_rules.specs.Step.{Event, trims, is_jump, cursor_after}
use Rattle.run_options.specs.declared.settings.Settings.{Settings}
use Rattle.rescue_core.specs.RunState.{RunState, setting_in}
use Rattle.rescue_core.specs.TurnParts.{RunsAt, IsReadOf}

pub cursor_is : (settings : Settings) (phase : Phase) (progress : Progress) (r : RunState) (e : Event) (request : Request)
    (given : ℕ) (ended : Bool) (top : ℕ) (jumped : Bool) → RunsAt settings phase progress r
    → IsReadOf request given ended e.reading → jumped ≡ is_jump (setting_in r) r.machine e → length r.machine.map ≡ top
    → cursor_after (setting_in r) r.machine e
    ≡ cond (trims phase) request.pos (cond (is_up (setting_in r) (numbered phase progress.pass))
    (min top (request.pos + cond ended given request.len + cond jumped progress.skip 0))
    (request.pos - cond jumped progress.skip 0))
cursor_is settings phase progress r e request given ended top jumped at read jump size =
    let p = at.pass in
    let q : r.machine.progress.skip ≡ progress.skip = ap (λ (p : Progress). p.skip) at.progress_is in
    let pos = read.pos in
    let asked = read.asked in
    let count = read.count in
    let end = read.end in
    cc
