use Rattle.std.proofs.Common.{◌≡◌, ◌++◌, take, drop}
use Rattle.scene_text.specs.Texts.{first_line}
use Rattle.scene_text.proofs.texts.line_from.Given as goal

abbrev pub invariant-loop-at : goal.invariant-loop-at
invariant-loop-at l = take l.at l.rest ++ first_line (drop l.at l.rest) ≡ first_line l.rest
