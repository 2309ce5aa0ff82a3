use Rattle.std.proofs.Common.{rules, sym}
use Rattle.rescue_sample.proofs.SampleLemmas.{size_of}
use Rattle.rescue_sample.proofs.source.SampleSourceSource.open_input.Goals as goal

pub returns-clause-call : goal.returns-clause-call
returns-clause-call c = record {
  keeps = search rules;
  named = search rules;
  all = λ tells. sym (size_of c.args.self.now.kib);
  input = search rules;
  opens = search rules;
  journal = search rules;
  kept = search rules;
  rose = search rules;
  losses = search rules;
}
