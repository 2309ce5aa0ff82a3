-- Blocks that come in the place of others. For contracts and proofs: no promise uses it.
use Rattle.std.specs.Prelude.{ℕ, List, ◌++◌, take, drop}
use Rattle.block_list.specs.declared.block.Block.{Block}

-- the list with new blocks in the place of those from one index up to another
abbrev pub spliced : List Block → ℕ → ℕ → List Block → List Block
spliced bs from to new = take from bs ++ new ++ drop to bs
