use Rattle.std.proofs.Common.{drop, rules, arith}
use Rattle.real_files.proofs.DirectLemmas.{gives_past}
use Rattle.real_files.proofs.direct.read_past.Goals as goal

pub returns-clause-gives : goal.returns-clause-gives
returns-clause-gives g c =
    gives_past c.args.skip c.in_ok-came.came c.min-count.result _ _ c.read.new.buf c.copy_from_slice.new.self
    (drop c.min-count.result c.args.buf.now) (search rules) (search rules) (search rules) (omega arith) (search rules)
    (search rules)
