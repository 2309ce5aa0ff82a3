use Rattle.rescue_console.proofs.SpeakingLemmas.{heard_speak}
use Rattle.rescue_console.proofs.laws.who_is_heard_speaks.Goals as goal

pub returns : goal.returns
returns c = heard_speak
