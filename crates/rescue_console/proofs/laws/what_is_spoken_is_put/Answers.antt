use Rattle.rescue_console.proofs.SpeakingLemmas.{spoken_is_put}
use Rattle.rescue_console.proofs.laws.what_is_spoken_is_put.Goals as goal

pub returns : goal.returns
returns c = spoken_is_put
