-- What a reader of words takes of each word. For contracts and proofs: no promise uses it.
use Rattle.std.specs.Prelude.{◌≡◌, ◌⊎◌, ◌++◌, Result, Err}
use Rattle.option_words.specs.declared.reader.Reader.{Reader}
use Rattle.option_words.specs.declared.fault.WordFault.{WordFault}
use Rattle.option_words.specs.declared.fault.WordFault.TheVariants.{NoMemory}
use Rattle.option_words.specs.Meanings.{Brought}

-- a reader took what a word gives
pub record Took (old new : Reader) (b : Brought) : Type 0 where
  pub items : new.items.items ≡ old.items.items ++ b.items
  pub operands : new.operands.items ≡ old.operands.items ++ b.operands
  pub next : new.next ≡ b.next

-- the fault of a meaning, except lack of memory, which is free
abbrev pub IsFaultOf : Result Brought WordFault → WordFault → Type 0
IsFaultOf meant fault = (fault ≡ NoMemory) ⊎ (meant ≡ Err fault)
