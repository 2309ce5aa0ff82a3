-- Blocks of a page that are passed, and the one that is found.
use Rattle.std.specs.List.{slice_get}
use Rattle.std.proofs.Common.{◌≡◌, ℕ, ◌<◌, ◌≤◌, List, get_or, Some, ap, sym, ◌∙◌}
use Rattle.std.proofs.lemmas.Option.{get_or_from_slice_get}
use Rattle.block_list.specs.declared.block.Block.{Block}
use Rattle.block_list.specs.declared.status.Status.{Status}
use Rattle.plain_blocks.proofs.EditLemmas.{no_block}
use Rattle.block_pages.specs.Search.{HasNoneOf, HasAt}

-- where a block begins
abbrev pub block_begins : Block → ℕ
block_begins b = b.pos

-- a block that has a status isn't passed
pub not_none : (bs : List Block) (s : Status) (from to i : ℕ) → HasAt bs s i → HasNoneOf bs s from to → from ≤ i → i < to → ⊥
not_none bs s from to i h n a b = n.none i no_block a b (h.has no_block)

-- the block that was read has the status that was found
has_status : (bs : List Block) (s t : Status) (i : ℕ) (b : Block) → slice_get bs i ≡ Some b
    → ((d : Block) → t ≡ (get_or bs i d).status) → t ≡ s → b.status ≡ s
has_status bs s t i b r q e = sym (ap (λ (y : Block). y.status) (get_or_from_slice_get bs i b b r)) ∙ sym (q b) ∙ e
