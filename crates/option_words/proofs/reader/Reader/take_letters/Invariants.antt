-- The letters so far are taken, and what is left of the word is text.
use Rattle.std.proofs.Common.{◌≡◌, ◌-◌, ◌<◌, length, drop}
use Rattle.std.specs.Str.{IsUtf8, chars}
use Rattle.std.specs.Str.Iter.{chars_rest}
use Rattle.option_words.specs.declared.reader.NextWord.TheVariants.{Anything}
use Rattle.option_words.specs.Meanings.{letters_meaning}
use Rattle.option_words.proofs.TakeLemmas.{Leads}
use Rattle.option_words.proofs.reader.Reader.take_letters.Given as goal

abbrev pub invariant-loop-letter : goal.invariant-loop-letter
invariant-loop-letter l = record {
  utf8 : IsUtf8 (chars_rest l.letters);
  within : length (chars_rest l.letters) < length l.word;
  next_is : l.self.next ≡ Anything;
  leads : Leads (letters_meaning l.rows l.n 1 (chars (drop 1 l.word))) l.initial.self l.self
      (letters_meaning l.rows l.n (length l.word - length (chars_rest l.letters)) (chars (chars_rest l.letters)));
}

abbrev pub decreases-loop-letter : goal.decreases-loop-letter
decreases-loop-letter l = length (chars_rest l.letters)
