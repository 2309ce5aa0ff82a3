use Rattle.std.proofs.Common.{rules}
use Rattle.scene_text.proofs.TextLemmas.{place-nearer, line-further, line-only, between-start, between-start-other}
use Rattle.scene_text.proofs.texts.first_difference.Goals as goal

pub returns-then-ne-clause-start : goal.returns-then-ne-clause-start
returns-then-ne-clause-start c =
    between-start
    c.args.wanted.now c.args.found.now c.loop-place.place c.loop-place.invariant.3 (search rules)

pub loop-place-smaller : goal.loop-place-smaller
loop-place-smaller c =
    place-nearer
    c.args.wanted.now c.line_from-line.result.now c.loop-place.place (search rules) c.line_from-line.ensures

pub loop-place-preserved : goal.loop-place-preserved
loop-place-preserved c =
    line-further
    c.args.wanted.now c.args.found.now c.line_from-line.result.now c.loop-place.place c.line_from-line.ensures
    (search rules) c.loop-place.invariant.0 c.loop-place.invariant.1 c.loop-place.invariant.2

pub returns-then-place-found-clause-differ : goal.returns-then-place-found-clause-differ
returns-then-place-found-clause-differ c =
    line-only c.args.wanted.now c.args.found.now c.loop-place.place (search rules) (search rules)

pub returns-then-place-found-clause-start : goal.returns-then-place-found-clause-start
returns-then-place-found-clause-start c =
    between-start-other
    c.args.wanted.now c.args.found.now c.loop-place.place c.loop-place.invariant.3 (search rules)
