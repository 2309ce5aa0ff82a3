use Rattle.std.proofs.Common.{◌≡◌, false, Some, ap, refl, subst, sym, ◌∙◌}
use Rattle.std.specs.List.{slice_get}
use Rattle.rescue_rules.specs.Passes.{numbered}
use Rattle.rescue_rules.specs.Machine.{has_request}
use Rattle.rescue_core.specs.Stages.{Known}
use Rattle.rescue_core.specs.RunState.{RunState, setting_in, run_of, passed}
use Rattle.rescue_core.proofs.BeginLemmas.{run_passed, passed_is}
use Rattle.rescue_core.proofs.StageLemmas.{known_passes}
use Rattle.rescue_core.proofs.phases.Rescue.begin_pass.Goals as goal

pub invariant_of-self : goal.invariant_of-self
invariant_of-self g c =
    let t = g.T.Tiles in
    let r = c.self.inside.running in
    let next : slice_get (run_of t r).machine.passes 1 ≡ Some (numbered c.args.phase c.args.pass)
    = ap (λ (now : RunState). slice_get now.machine.passes 1) c.self.view_is ∙ c.requires.next in
    let spent : has_request (setting_in (run_of t r)) (run_of t r).machine ≡ false
    = ap (λ (now : RunState). has_request (setting_in now) now.machine) c.self.view_is ∙ c.requires.spent in
    let begins = c.progress_at_start-self-inside in
    let is = passed_is t r c.args.phase c.args.pass begins.result next begins.ensures.pass
    (begins.ensures.cursor r.domain r.keeper.names r.keeper.heading.line c.args.phase (t.statuses r.tiles)
    (sym c.end.ensures.end)) begins.ensures.mode begins.ensures.skip in (
      run_passed t r _ c.args.phase c.args.pass c.self.invariant.0 next is refl c.self.invariant.0.program refl,
      subst (Known g.P.Stage.reached) (sym is)
          (known_passes g.P.Stage.reached (run_of t r) c.args.phase c.args.pass next spent c.self.invariant.1),
    )

pub returns : goal.returns
returns g c =
    let t = g.T.Tiles in
    let r = c.self.inside.running in
    let next : slice_get (run_of t r).machine.passes 1 ≡ Some (numbered c.args.phase c.args.pass)
    = ap (λ (now : RunState). slice_get now.machine.passes 1) c.self.view_is ∙ c.requires.next in
    let begins = c.progress_at_start-self-inside in
    passed_is t r c.args.phase c.args.pass begins.result next begins.ensures.pass
    (begins.ensures.cursor r.domain r.keeper.names r.keeper.heading.line c.args.phase (t.statuses r.tiles)
    (sym c.end.ensures.end)) begins.ensures.mode begins.ensures.skip
    ∙ ap (λ (now : RunState). passed now c.args.phase c.args.pass) c.self.view_is
