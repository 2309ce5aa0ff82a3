-- The end of the block with the greatest number.
use Rattle.std.proofs.Common.{◌<◌, ◌≤◌, sym, subst, arith}
use Rattle.map_algebra.specs.Blocks.{IsEndOfBlocks, begin_of, end_of}
use Rattle.map_algebra.proofs.BlockLemmas.{ends_last, ends_nowhere}
use Rattle.map_algebra.proofs.blocks.end_of_blocks.Goals as goal

pub returns-then-positions-clause-end : goal.returns-then-positions-clause-end
returns-then-positions-clause-end c =
    let s = c.args.shape in
    let m = c.in-Some.greatest in
    let p = c.positions_of-positions.ensures in
    let some : begin_of s m < end_of s m = omega (arith, c.if-positions.true, p.from, p.to) in
    subst (IsEndOfBlocks s c.args.numbers.now) (sym p.to)
    (ends_last s c.args.numbers.now m c.requires.shape.some c.in-Some.ensures.0 c.in-Some.ensures.1 some)

pub returns-else-positions-clause-end : goal.returns-else-positions-clause-end
returns-else-positions-clause-end c =
    let s = c.args.shape in
    let m = c.in-Some.greatest in
    let p = c.positions_of-positions.ensures in
    let none : end_of s m ≤ begin_of s m = omega (arith, c.if-positions.false, p.from, p.to) in
    ends_nowhere s c.args.numbers.now m c.requires.shape.some c.in-Some.ensures.1 none
