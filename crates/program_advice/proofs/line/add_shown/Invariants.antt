use Rattle.std.proofs.Common.{◌≡◌, ◌+◌, ◌++◌, length, map, take}
use Rattle.mapfile_text.specs.Printed.{shown_byte}
use Rattle.program_advice.proofs.line.add_shown.Given as goal

-- what was added is the bytes so far, as they are printed
abbrev pub invariant-loop-byte : goal.invariant-loop-byte
invariant-loop-byte l = record {
  text : l.line.items ≡ l.initial.line.items ++ map shown_byte (take l.byte-index l.bytes);
  len : length l.line.items ≡ length l.initial.line.items + l.byte-index;
}
