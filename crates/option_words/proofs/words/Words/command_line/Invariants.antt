-- The line is that of the words so far.
use Rattle.std.proofs.Common.{◌≡◌, take}
use Rattle.std.specs.String.{string_bytes}
use Rattle.option_words.specs.Words.{command_line}
use Rattle.option_words.proofs.words.Words.command_line.Given as goal

abbrev pub invariant-loop-i : goal.invariant-loop-i
invariant-loop-i l = string_bytes l.line ≡ command_line l.program (take l.i l.self)
