use Rattle.std.proofs.Common.{◌≡◌, ◌+◌, ◌++◌, length, map, take}
use Rattle.mapfile_text.specs.Printed.{shown_byte}
use Rattle.mapfile_text.proofs.printer.append_words.Given as goal

-- what was appended is the bytes so far, as they are printed
abbrev pub invariant-loop-byte : goal.invariant-loop-byte
invariant-loop-byte l = record {
  text : l.out.items ≡ l.initial.out.items ++ map shown_byte (take l.byte-index l.byte-items);
  len : length l.out.items ≡ length l.initial.out.items + l.byte-index;
}
