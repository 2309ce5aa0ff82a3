-- No option so far has the letter.
use Rattle.std.proofs.Common.{◌≡◌, drop}
use Rattle.ddrescue_words.specs.Asking.{first_word}
use Rattle.ddrescue_words.proofs.command.first_word.Given as goal

abbrev pub invariant-loop-item : goal.invariant-loop-item
invariant-loop-item l = first_word l.letter l.items ≡ first_word l.letter (drop l.item-index l.items)
