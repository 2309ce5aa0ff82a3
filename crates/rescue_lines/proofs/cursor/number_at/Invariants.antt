use Rattle.std.proofs.Common.{◌≡◌, drop}
use Rattle.rescue_lines.specs.Lines.{number_at}
use Rattle.rescue_lines.proofs.cursor.number_at.Given as goal

abbrev pub invariant-loop-byte : goal.invariant-loop-byte
invariant-loop-byte l = number_at l.value (drop l.byte-index l.text) ≡ number_at 0 l.text
