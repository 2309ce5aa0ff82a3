use Rattle.std.proofs.Common.{rules}
use Rattle.task_rescue.proofs.SampledLemmas.{line_made}
use Rattle.task_rescue.proofs.sample.run_sample.Goals as goal

pub returns : goal.returns
returns c =
    line_made (λ line. line.items) c.args.kib c.answered.result c.in_ok-counts.counts _ _ _ _ c.sample_line.result
    (record { tells = search rules; bytes = c.in_ok-source.ensures.bytes; journal = c.in_ok-source.ensures.journal })
    (search rules) (search rules) c.if-not-tells.ensures.still c.in_ok-counts.ensures c.answered.ensures c.sample_line.ensures
