use Rattle.std.proofs.Common.{◌+◌, arith}
use Rattle.paged_blocks.proofs.ShortListLemmas.{few_after, few_begun, few_reached, few_over, few_front_of, front_within}
use Rattle.paged_blocks.proofs.short_list.first_from.Goals as goal

pub overflow_add-from : goal.overflow_add-from
overflow_add-from g c =
    omega (arith, front_within c.args.tiles.now.statuses (c.args.from + 1) (omega (arith, c.requires.front)), c.requires.short)

pub loop-i-init : goal.loop-i-init
loop-i-init g c = record {
  clear = few_begun _ _ _ _ c.begun_in_front-begun.ensures.place c.begun_in_front-begun.ensures.begun;
  cost = omega (arith, c.begun_in_front-begun.ensures.begun);
}

pub loop-i-preserved : goal.loop-i-preserved
loop-i-preserved g c = record {
  clear = few_after c.args.tiles.now.statuses _ _ _ _ c.requires.short c.block.ensures
      (λ q. let t = c.is.ensures.1 q in cc) c.loop-i.invariant.clear;
  cost = omega (arith, c.tick.ensures, c.loop-i.invariant.cost);
}

pub returns-then-is-clause-past : goal.returns-then-is-clause-past
returns-then-is-clause-past g c =
    few_reached c.args.tiles.now.statuses _ _ _ c.begun_in_front-begun.ensures.place (omega arith)

pub returns-then-is-clause-cost : goal.returns-then-is-clause-cost
returns-then-is-clause-cost g c =
    omega (
      arith,
      c.tick.ensures,
      c.loop-i.invariant.cost,
      c.begun_in_front-begun.ensures.begun,
      c.begun_in_front-begun.ensures.cost,
      c.blocks-i-end.ensures,
      c.requires.few,
    )

pub returns-clause-past : goal.returns-clause-past
returns-clause-past g c =
    few_front_of c.args.tiles.now.statuses _ _ c.requires.front (omega (arith, c.blocks-2.ensures))

pub returns-clause-has : goal.returns-clause-has
returns-clause-has g c = λ b e. few_over c.args.tiles.now.statuses _ b _ (omega (arith, c.blocks-2.ensures)) e

pub returns-clause-cost : goal.returns-clause-cost
returns-clause-cost g c =
    omega (arith, c.loop-i.invariant.cost, c.begun_in_front-begun.ensures.begun, c.begun_in_front-begun.ensures.cost, c.blocks-i-end.ensures, c.requires.few)
