-- What the entry of a page says. For contracts and proofs: no promise uses it.
use Rattle.std.specs.Prelude.{◌≡◌, ℕ, ◌≤◌, List, length, slice_index_or, count_by}
use Rattle.std.specs.List.{flat_map}
use Rattle.block_list.specs.declared.block.Block.{Block}
use Rattle.block_list.specs.declared.status.Status.{Status}
use Rattle.block_list.specs.Status.{same}
use Rattle.block_list.specs.Stretches.{covered}
use Rattle.block_pages.specs.declared.page_entry.PageEntry.{PageEntry}
use Rattle.block_pages.specs.Tally.{tallied}

-- an entry says what a page with a number holds
pub record IsEntryOf (blocks : List Block) (number : ℕ) (e : PageEntry) : Type 0 where
  pub page : e.page ≡ number
  pub len : e.len ≡ length blocks
  pub fits : length blocks ≤ 64
  pub begins : (d : Block) → (slice_index_or blocks 0 d).pos ≡ e.pos
  pub tally : (s : Status) → tallied e.tally s ≡ count_by (λ z. same z s) (flat_map covered blocks)
