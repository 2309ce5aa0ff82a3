-- What stands at a position of a created map.
use Rattle.std.proofs.Common.{◌≡◌, ℕ, ◌<◌, cond, Some, ap, ◌∙◌}
use Rattle.std.proofs.lemmas.Bool.{cond-true, cond-false, false_from_ne_true}
use Rattle.block_list.specs.declared.status.Status.{Status}
use Rattle.block_list.specs.declared.status.Status.TheVariants.{NonTried}
use Rattle.block_list.specs.Map.{Has}
use Rattle.map_counts.specs.At.{map_by}
use Rattle.map_algebra.specs.Blocks.{is_in_blocks}
use Rattle.map_algebra.specs.BlockLaws.{CreatedHaveBlocks}
use Rattle.map_algebra.proofs.BlockLemmas.{in_some, some_in}
use Rattle.map_algebra.proofs.MapLemmas.{length_map_by, map_has_each}

has_by : (f : ℕ → Status) (end x : ℕ) (s : Status) → x < end → f x ≡ s → Has (map_by f end) s x
has_by f end x s h e = map_has_each f end x h ∙ ap (λ (v : Status). Some v) e

pub created_have_blocks : CreatedHaveBlocks
created_have_blocks s ks domain listed rest end =
    let f : ℕ → Status = λ x. cond (domain x) (cond (is_in_blocks s ks x) listed rest) NonTried in
    record {
      blocks = λ k x l d c h. has_by f end x listed l
          (cond-true (domain x) (cond (is_in_blocks s ks x) listed rest) NonTried d
          ∙ cond-true (is_in_blocks s ks x) listed rest (some_in s ks k x c h));
      others = λ x l d none. has_by f end x rest l
          (cond-true (domain x) (cond (is_in_blocks s ks x) listed rest) NonTried d
          ∙ cond-false (is_in_blocks s ks x) listed rest
          (false_from_ne_true (is_in_blocks s ks x) (λ t. let b = in_some s ks x t in none b.0 b.1 b.2)));
      outside = λ x l d. has_by f end x NonTried l
          (cond-false (domain x) (cond (is_in_blocks s ks x) listed rest) NonTried d);
      size = length_map_by f end;
    }
