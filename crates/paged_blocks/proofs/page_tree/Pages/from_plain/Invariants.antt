use Rattle.std.proofs.Common.{◌-◌, length}
use Rattle.block_list.specs.Stretches.{stretches}
use Rattle.paged_blocks.proofs.KeptLemmas.{IsFilling}
use Rattle.paged_blocks.proofs.page_tree.Pages.from_plain.Given as goal

abbrev pub invariant-loop-made : goal.invariant-loop-made
invariant-loop-made l = IsFilling l.pages.items l.entries.items (stretches l.tiles.statuses) l.made

abbrev pub decreases-loop-made : goal.decreases-loop-made
decreases-loop-made l = length (stretches l.tiles.statuses) - l.made
