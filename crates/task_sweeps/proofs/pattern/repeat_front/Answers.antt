use Rattle.std.proofs.Common.{◌≡◌, ℕ, length, refl, subst, arith}
use Rattle.std.proofs.lemmas.List.{length-set}
use Rattle.task_sweeps.proofs.PatternLemmas.{IsFilledTo, filled_first, filled_next, filled_all}
use Rattle.task_sweeps.proofs.pattern.repeat_front.Goals as goal

pub loop-i-init : goal.loop-i-init
loop-i-init c = filled_first c.args.buffer.now c.args.front

pub loop-i-preserved : goal.loop-i-preserved
loop-i-preserved c =
    filled_next c.args.buffer.now c.loop-i.buffer _ c.args.front c.loop-i.i c.requires.some (omega arith)
    c.loop-i.invariant refl (length-set _ _ _)

pub returns-clause-each : goal.returns-clause-each
returns-clause-each c = λ i lt.
    let over : c.loop-i.i ≡ length c.args.buffer.now = omega arith in
    filled_all c.args.buffer.now c.loop-i.buffer c.args.front i c.requires.some c.requires.within
    (subst (λ (k : ℕ). IsFilledTo c.args.buffer.now c.loop-i.buffer c.args.front k) over c.loop-i.invariant) lt
