use Rattle.std.proofs.Common.{rules}
use Rattle.rescue_sample.proofs.SampleLemmas.{counted}
use Rattle.rescue_sample.proofs.source.SampleSource.answered.Goals as goal

pub returns : goal.returns
returns c = λ kib same.
    counted c.args.self.now.kib kib c.args.self.now.entries.items _ same c.args.self.now.answered (search rules) (search rules)
