use Rattle.std.proofs.Common.{◌+◌, ◌∙◌, ap, sym, arith}
use Rattle.block_list.specs.declared.block.Block.{Block}
use Rattle.plain_blocks.proofs.LookupLemmas.{counted_yes, counted_no, counted_all, counted_end}
use Rattle.plain_blocks.proofs.lookups.count.Goals as goal
use Rattle.plain_blocks.proofs.lookups.count.Goals.{then-is, else-is}

pub overflow_add-counted : goal.overflow_add-counted
overflow_add-counted c =
    let k = counted_yes c.args.blocks.now.items c.loop-i.i c.args.status c.block-block.result (omega arith)
    (ap (λ (b : Block). b.status) (sym c.block-block.ensures) ∙ c.is.ensures.0 c.if-is.true) in
    omega (
      arith,
      k,
      ap (λ (b : Block). b.size) c.block-block.ensures,
      c.loop-i.invariant,
      counted_end c.args.blocks.now.items (c.loop-i.i + 1) c.args.status,
      c.requires.short,
    )

pub loop-i-preserved : goal.loop-i-preserved
loop-i-preserved c = elim c.if-is.branch [
  | then-is w ↦ omega (
    arith,
    w.counted-is,
    c.loop-i.invariant,
    counted_yes c.args.blocks.now.items c.loop-i.i c.args.status c.block-block.result (omega arith)
        (ap (λ (b : Block). b.status) (sym c.block-block.ensures) ∙ c.is.ensures.0 w.if-is.true),
    ap (λ (b : Block). b.size) c.block-block.ensures,
  )
  | else-is w ↦ omega (
    arith,
    w.counted-is,
    c.loop-i.invariant,
    counted_no c.args.blocks.now.items c.loop-i.i c.args.status c.block-block.result (omega arith)
        (λ e. let t = c.is.ensures.1 (ap (λ (b : Block). b.status) c.block-block.ensures ∙ e) in let f = w.if-is.false in cc),
  )
]

pub returns : goal.returns
returns c = c.loop-i.invariant ∙ counted_all c.args.blocks.now.items c.loop-i.i c.args.status (omega arith)
