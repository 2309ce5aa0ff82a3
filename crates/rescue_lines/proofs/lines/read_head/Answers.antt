-- By how the line begins.
use Rattle.std.proofs.Common.{◌≡◌, ◌∙◌}
use Rattle.rescue_lines.specs.declared.lines.Head.{Head}
use Rattle.rescue_lines.specs.declared.lines.Start.TheVariants.{InPhase, Over}
use Rattle.rescue_lines.specs.Lines.{IsHead, start_of, start_with}
use Rattle.rescue_lines.proofs.LineLemmas.{InThat, IsOver, narrows}
use Rattle.rescue_lines.proofs.lines.read_head.Goals as goal

pub returns-in-InPhase : goal.returns-in-InPhase
returns-in-InPhase c =
    let begins : start_of c.args.line.now ≡ InPhase c.in-InPhase.current = cc in
    narrows (InThat c.in-InPhase.current) _ _ _ _
    (λ (h : Head) (has : IsHead h × (start_with h ≡ start_of c.args.line.now)). (has.0, has.1 ∙ begins))
    c.read_phase.ensures

pub returns-in-Over : goal.returns-in-Over
returns-in-Over c =
    let begins : start_of c.args.line.now ≡ Over c.in-Over.done = cc in
    narrows (IsOver c.in-Over.done) _ _ _ _
    (λ (h : Head) (has : IsHead h × (start_with h ≡ start_of c.args.line.now)). has.1 ∙ begins)
    c.read_last.ensures
