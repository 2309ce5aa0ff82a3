use Rattle.std.proofs.Common.{arith}
use Rattle.std.proofs.lemmas.Bool.{ltb-true}
use Rattle.rescue_domain.proofs.StretchLemmas.{end_in_front, end_after, none_after}
use Rattle.rescue_domain.proofs.domain.are_ended.Goals.{else-count-gt0-via-then-count-gt0+else-x-parts, else-count-gt0-via-else-count-gt0}
use Rattle.rescue_domain.proofs.domain.are_ended.Goals as goal

pub returns-then-count-parts : goal.returns-then-count-parts
returns-then-count-parts c = λ last. record {
  ended = elim c.else-count-gt0.branch [
    | else-count-gt0-via-then-count-gt0+else-x-parts w ↦
        end_in_front c.args.parts.now c.requires c.args.count c.args.x w.if-count-gt0.true (omega arith) w.if-x-parts.false
    | else-count-gt0-via-else-count-gt0 w ↦ λ i part l e. absurd (omega (arith, l, w.if-count-gt0.false))
  ];
  others = none_after c.args.parts.now c.requires c.args.count c.args.x c.if-count-parts.true;
}

pub returns-else-count-parts : goal.returns-else-count-parts
returns-else-count-parts c = λ ahead. record {
  ended = elim c.else-count-gt0.branch [
    | else-count-gt0-via-then-count-gt0+else-x-parts w ↦
        end_in_front c.args.parts.now c.requires c.args.count c.args.x w.if-count-gt0.true (omega arith) w.if-x-parts.false
    | else-count-gt0-via-else-count-gt0 w ↦ λ i part l e. absurd (omega (arith, l, w.if-count-gt0.false))
  ];
  others = end_after c.args.parts.now c.requires c.args.count c.args.x (ltb-true _ _ ahead);
}
