use Rattle.std.proofs.Common.{◌∙◌}
use Rattle.rescue_sample.proofs.SampleLemmas.{bytes_at}
use Rattle.rescue_sample.proofs.source.SampleSource.give.Goals as goal

pub returns : goal.returns
returns c = c.fill.ensures ∙ bytes_at c.args.self.now.kib c.args.pos c.args.count c.requires.there
