use Rattle.std.proofs.Common.{rules, drop}
use Rattle.transfer_token.proofs.FetchLemmas.{fetched_so}
use Rattle.transfer_token.proofs.fetch.fetch.Goals as goal

pub returns-clause-fetched : goal.returns-clause-fetched
returns-clause-fetched g c =
    fetched_so c.args.request c.args.sector c.in_ok-got.got c.cut_read.result c.read_at.new.buf (drop c.args.request.len c.args.buf.now)
    (g.S.Source.state c.args.source.now) (g.S.Source.state c.read_at.new.self)
    (search rules) (search rules) (search rules) (search rules) (search rules) (search rules) c.cut_read.ensures.spans
