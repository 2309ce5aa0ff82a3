use Rattle.std.proofs.Common.{◌≡◌, ◌++◌, map, take}
use Rattle.mapfile_text.specs.Printed.{shown_byte}
use Rattle.task_files.proofs.opening.add_name.Given as goal

-- what was added is the bytes so far, as they are said
abbrev pub invariant-loop-byte : goal.invariant-loop-byte
invariant-loop-byte l = l.line.items ≡ l.initial.line.items ++ map shown_byte (take l.byte-index l.byte-items)
