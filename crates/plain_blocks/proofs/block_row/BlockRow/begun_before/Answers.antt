use Rattle.std.proofs.Common.{◌≡◌, ℕ, ◌-◌, ◌≤◌, List, length, ap, ltb, arith, rules}
use Rattle.std.specs.List.{flat_map}
use Rattle.std.specs.List.Sorted.{IsNonDecreasingBy}
use Rattle.std.proofs.lemmas.List.Sorted.{IsPartitionPoint-from_clause, IsPartitionedBy-ltb}
use Rattle.block_list.specs.declared.block.Block.{Block}
use Rattle.block_list.specs.declared.status.Status.{Status}
use Rattle.block_list.specs.Stretches.{covered}
use Rattle.plain_blocks.specs.Row.{rows}
use Rattle.block_list.specs.Edits.{IsTiled, start_of}
use Rattle.block_list.proofs.TileLemmas.{start_all, tile_at}
use Rattle.plain_blocks.proofs.EditLemmas.{no_block}
use Rattle.plain_blocks.proofs.RowLemmas.{rising_ends, place_from_ends}
use Rattle.plain_blocks.proofs.block_row.BlockRow.begun_before.Goals as goal

pub returns-then-start-at : goal.returns-then-start-at
returns-then-start-at c =
    let bs : List Block = c.args.self.now.items in
    let last = tile_at bs (c.len-len.result - 1) no_block c.requires.tiled (omega arith) in
    let pos = c.start.ensures no_block in
    record {
      index = omega arith;
      before = λ z. omega (arith, last.begins, pos);
      reaches = omega (arith, start_all bs c.len-len.result (omega arith));
    }

pub returns-then-start-at-2 : goal.returns-then-start-at-2
returns-then-start-at-2 c =
    let bs : List Block = c.args.self.now.items in
    let front = tile_at bs (c.len-len.result - 2) no_block c.requires.tiled (omega arith) in
    let last = tile_at bs (c.len-len.result - 1) no_block c.requires.tiled (omega arith) in
    let z : c.len-len.result - 1 - 1 ≡ c.len-len.result - 2 = omega arith in
    let low = c.start-then-len-gt1.ensures no_block in
    let high = c.start.ensures no_block in
    record {
      index = omega arith;
      before = λ w. omega (arith, front.begins, low, ap (λ i. start_of bs i) z);
      reaches = omega (arith, last.begins, high);
    }

pub returns : goal.returns
returns c =
    let es : List ℕ = c.self.inside.ends.items in
    let ss : List Status = c.self.inside.statuses.items in
    let k : ℕ = c.partition_point.result in
    let tiled : IsTiled (rows 0 es ss) = rw (← c.self.view_is) at c.requires.tiled in
    let within : c.args.at ≤ length (flat_map covered (rows 0 es ss)) = rw (← c.self.view_is) at c.requires.within in
    let rising : IsNonDecreasingBy (λ (x : ℕ). x) c.deref.result.now =
    rw c.deref.ensures.value (rising_ends es ss c.self.invariant.alike tiled) in
    let parted = IsPartitionedBy-ltb (λ (x : ℕ). x) c.deref.result.now c.args.at rising in
    let point = IsPartitionPoint-from_clause (λ (x : ℕ). ltb x c.args.at) c.deref.result.now k
    c.partition_point.ensures.partitioned parted (λ a r q k. search rules) in
    let bound : k ≤ length es = rw c.deref.ensures.value at c.partition_point.ensures.bound in
    rw (← c.self.view_is) (place_from_ends es ss c.args.at k c.self.invariant.alike tiled (omega arith) within bound
    (rw c.deref.ensures.value at point))
