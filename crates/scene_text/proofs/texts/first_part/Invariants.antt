use Rattle.std.proofs.Common.{◌≡◌, ◌+◌, drop}
use Rattle.scene_text.specs.Texts.{part_length}
use Rattle.scene_text.proofs.texts.first_part.Given as goal

abbrev pub invariant-loop-at : goal.invariant-loop-at
invariant-loop-at l = l.at + part_length (drop l.at l.text) ≡ part_length l.text
