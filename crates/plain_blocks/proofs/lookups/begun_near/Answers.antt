use Rattle.std.proofs.Common.{◌≡◌, ◌+◌, ◌-◌, ap, arith}
use Rattle.block_list.specs.Edits.{start_of}
use Rattle.block_list.proofs.TileLemmas.{tile_at}
use Rattle.plain_blocks.proofs.EditLemmas.{no_block}
use Rattle.plain_blocks.proofs.lookups.begun_near.Goals as goal

pub returns-then-x-end_of : goal.returns-then-x-end_of
returns-then-x-end_of c =
    let here = tile_at c.args.blocks.now.items c.args.near no_block c.requires.tiled (omega arith) in
    let z : c.args.near + 1 - 1 ≡ c.args.near = omega arith in
    record {
      index = omega arith;
      before = λ w. omega (arith, here.begins, c.start.ensures no_block, ap (λ n. start_of c.args.blocks.now.items n) z);
      reaches = omega arith;
    }
