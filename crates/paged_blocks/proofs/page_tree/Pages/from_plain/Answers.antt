use Rattle.std.proofs.Common.{◌≡◌, ◌≤◌, ◌<◌, ◌∙◌, ap, sym, length, [], ◌^◌, arith}
use Rattle.block_list.specs.Stretches.{stretches}
use Rattle.paged_blocks.proofs.KeptLemmas.{adding, filled, filled_statuses, range_short}
use Rattle.paged_blocks.proofs.page_tree.Pages.from_plain.Goals as goal

pub add-requires-clause-short : goal.add-requires-clause-short
add-requires-clause-short c =
    omega (arith, range_short c.args.tiles.now.statuses _ _ _ c.page_of.ensures, c.end-end.ensures.end, c.end-end.ensures.short)

pub loop-made-preserved : goal.loop-made-preserved
loop-made-preserved c =
    adding _ _ _ _ _ _ _ _ c.loop-made.invariant c.page_of.ensures
    (omega (arith, c.page_len.ensures.some))
    (omega (arith, c.page_len.ensures.within, c.blocks-blocks.ensures))
    (λ h. omega (arith, c.page_len.ensures.all (omega (arith, c.blocks-blocks.ensures)), c.blocks-blocks.ensures))
    (λ h. omega (arith, c.page_len.ensures.half (omega (arith, c.blocks-blocks.ensures)), c.blocks-blocks.ensures))
    (λ h. omega (arith, c.page_len.ensures.rest (omega (arith, c.blocks-blocks.ensures)), c.blocks-blocks.ensures))
    c.in_ok-add.ensures

pub invariant_of-result : goal.invariant_of-result
invariant_of-result c =
    let f : c.reserve-3.new.self.items ≡ [] = let v = c.reserve-3.ensures.items in let w = c.new-free.ensures.items in cc in
    let all : length (stretches c.args.tiles.now.statuses) ≤ c.loop-made.made = omega (arith, c.loop-made-test.false, c.blocks-blocks.ensures) in
    let short : length c.args.tiles.now.statuses < 2 ^ 63 = omega (arith, c.end-end.ensures.end, c.end-end.ensures.short) in
    record {
      kept = rw f (filled _ _ c.args.tiles.now.statuses _ short c.loop-made.invariant all);
      ends = c.end-end.ensures.end ∙ ap length (sym (filled_statuses _ _ c.args.tiles.now.statuses _ c.loop-made.invariant all));
      room = omega (arith, c.in_ok-reserve-3.ensures.ok);
    }

pub returns : goal.returns
returns c =
    let all : length (stretches c.args.tiles.now.statuses) ≤ c.loop-made.made = omega (arith, c.loop-made-test.false, c.blocks-blocks.ensures) in
    filled_statuses _ _ c.args.tiles.now.statuses _ c.loop-made.invariant all

pub page_of-requires-clause-short : goal.page_of-requires-clause-short
page_of-requires-clause-short c = omega (arith, c.end-end.ensures.end, c.end-end.ensures.short)
