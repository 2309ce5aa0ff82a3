-- By what the read gave.
use Rattle.std.proofs.Common.{rules, arith}
use Rattle.partition_domain.proofs.ReadLemmas.{reads_record, reads_unread, reads_unsigned}
use Rattle.partition_domain.proofs.read.read_table.Goals as goal

pub returns-then-count-lt-SECTOR-clause-read : goal.returns-then-count-lt-SECTOR-clause-read
returns-then-count-lt-SECTOR-clause-read g c =
    reads_unread c.args.sector c.in-Ok.got c.read_at.new.buf (g.S.Source.state c.args.source.now)
    (g.S.Source.state c.read_at.new.self) (search rules) (search rules) c.in-Ok.ensures.call
    (omega (arith, c.count.ensures, c.if-count-lt-SECTOR.true))

pub returns-then-not-has_signature-clause-read : goal.returns-then-not-has_signature-clause-read
returns-then-not-has_signature-clause-read g c =
    reads_unsigned c.args.sector c.in-Ok.got c.read_at.new.buf (g.S.Source.state c.args.source.now)
    (g.S.Source.state c.read_at.new.self) (search rules) (search rules) c.in-Ok.ensures.call
    (omega (arith, c.count.ensures, c.if-count-lt-SECTOR.false)) (search rules)

pub returns-clause-read : goal.returns-clause-read
returns-clause-read g c =
    reads_record c.args.sector c.in-Ok.got c.read_at.new.buf (g.S.Source.state c.args.source.now)
    (g.S.Source.state c.read_at.new.self) (search rules) (search rules) c.in-Ok.ensures.call
    c.read_entries.result (omega (arith, c.count.ensures, c.if-count-lt-SECTOR.false)) (search rules)
    c.read_entries.ensures
