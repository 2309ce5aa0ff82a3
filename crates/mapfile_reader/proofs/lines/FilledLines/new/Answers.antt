-- The lines that say something are among all lines.
use Rattle.mapfile_reader.proofs.LineLemmas.{few_said}
use Rattle.mapfile_reader.proofs.lines.FilledLines.new.Goals as goal

pub returns-clause-few : goal.returns-clause-few
returns-clause-few c = few_said c.args.text.now
