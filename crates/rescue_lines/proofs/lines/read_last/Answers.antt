use Rattle.rescue_lines.proofs.LineLemmas.{last_strips}
use Rattle.rescue_lines.proofs.lines.read_last.Goals as goal

pub returns : goal.returns
returns c = last_strips c.args.done _ _ _ _ c.name_of_end.ensures c.read.ensures c.read-2.ensures
