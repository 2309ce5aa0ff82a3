use Rattle.option_words.proofs.MemoryLemmas.{never_memory}
use Rattle.option_words.proofs.laws.words_never_lack_memory.Goals as goal

pub returns : goal.returns
returns c = never_memory
