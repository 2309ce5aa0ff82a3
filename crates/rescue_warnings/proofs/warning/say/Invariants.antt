use Rattle.std.proofs.Common.{◌≡◌, ◌+◌, ◌≤◌, ◌++◌, drop, length, map}
use Rattle.std.specs.List.{concat}
use Rattle.rescue_warnings.specs.Warnings.{part_text, row_text, widths}
use Rattle.rescue_warnings.proofs.warning.say.Given as goal

-- what was added is the parts so far, and there is room for the others
abbrev pub invariant-loop-part : goal.invariant-loop-part
invariant-loop-part l = record {
  text : l.line.items ++ concat (map (part_text l.names l.row) (drop l.part-index l.row.parts.now))
      ≡ l.initial.line.items ++ row_text l.names l.row;
  room : length l.line.items + widths l.row (drop l.part-index l.row.parts.now) ≤ 500;
}
