-- What is found, with what the bytes after here have, is what all have.
use Rattle.std.proofs.Common.{◌≡◌, drop, ◌||◌}
use Rattle.std.specs.List.{list_any}
use Rattle.fill_generate.specs.Marking.{is_byte}
use Rattle.fill_generate.proofs.mark.has_byte.Given as goal

abbrev pub invariant-loop-byte : goal.invariant-loop-byte
invariant-loop-byte l = list_any is_byte l.bytes ≡ (l.found || list_any is_byte (drop l.byte-index l.bytes))
