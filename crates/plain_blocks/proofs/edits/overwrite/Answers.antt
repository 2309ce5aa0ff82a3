use Rattle.std.proofs.Common.{List, ap, length, arith}
use Rattle.std.specs.List.{flat_map}
use Rattle.block_list.specs.declared.block.Block.{Block}
use Rattle.block_list.specs.Stretches.{covered}
use Rattle.block_list.proofs.TileLemmas.{index_before}
use Rattle.plain_blocks.proofs.edits.overwrite.Goals as goal

pub replace-requires-clause-order : goal.replace-requires-clause-order
replace-requires-clause-order c =
    let kept = ap (λ (r : List Block). length (flat_map covered r))
    (c.cut-2.ensures.cut.kept c.args.i (omega (arith, c.cut.ensures.cut.place))) in
    index_before c.cut-2.new.blocks.items _ _ (omega (arith, kept, c.cut.ensures.cut.place, c.cut-2.ensures.cut.place))
