use Rattle.rescue_console.proofs.SpeakingLemmas.{speeches_join}
use Rattle.rescue_console.proofs.laws.speeches_join.Goals as goal

pub returns : goal.returns
returns c = speeches_join
