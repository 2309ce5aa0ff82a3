use Rattle.ddrescue_laws.proofs.SampleLines.{sample_is_one_line}
use Rattle.ddrescue_laws.proofs.laws.a_sample_is_one_line.Goals as goal

pub returns : goal.returns
returns c = sample_is_one_line
