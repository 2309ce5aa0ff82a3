-- The stretches of a map, as a walk meets them.
use Rattle.std.proofs.Common.{ℕ, ◌+◌, ◌<◌, ◌≤◌, List, length, arith}
use Rattle.std.proofs.lemmas.Option.{get_or_from_slice_get}
use Rattle.std.proofs.lemmas.List.{get_or_past}
use Rattle.block_list.specs.declared.block.Block.{Block}
use Rattle.block_list.specs.declared.status.Status.{Status}
use Rattle.block_list.specs.declared.status.Status.TheVariants.{NonTried}
use Rattle.block_list.specs.Stretches.{IsStretchAt}
use Rattle.rescue_domain.specs.Stretch.{IsConstant}
use Rattle.map_counts.specs.At.{status_at}

-- from a position on a map keeps its status up to the end of the stretch that holds it
pub constant_in : (map : List Status) (x to : ℕ) (b : Block) → IsStretchAt map x b → x < to → to ≤ b.pos + b.size
    → IsConstant (status_at map) x to b.status
constant_in map x to b k some within = record {
  some = some;
  each = λ y l u. get_or_from_slice_get map y b.status NonTried
      (k.stretch.has y (omega (arith, l, k.begun)) (omega (arith, u, within)));
}

-- and past its end it is non-tried
pub constant_past : (map : List Status) (x to : ℕ) → length map ≤ x → x < to → IsConstant (status_at map) x to NonTried
constant_past map x to ended some = record {
  some = some;
  each = λ y l u. get_or_past map y NonTried (omega (arith, l, ended));
}
