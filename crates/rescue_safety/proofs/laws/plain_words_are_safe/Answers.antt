use Rattle.rescue_safety.proofs.PlainLemmas.{plain_words_are_safe}
use Rattle.rescue_safety.proofs.laws.plain_words_are_safe.Goals as goal

pub returns : goal.returns
returns c = plain_words_are_safe
