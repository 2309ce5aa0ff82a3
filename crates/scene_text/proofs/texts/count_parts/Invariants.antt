use Rattle.std.proofs.Common.{◌≡◌, ◌+◌, ◌≤◌, drop}
use Rattle.scene_text.specs.Texts.{part_count}
use Rattle.scene_text.proofs.texts.count_parts.Given as goal

abbrev pub invariant-loop-at : goal.invariant-loop-at
invariant-loop-at l =
    (l.count + part_count (drop l.at l.text) ≡ part_count l.text) × (l.count ≤ l.at)
