use Rattle.kernel_laws.proofs.Loses.{read_files}
use Rattle.kernel_laws.proofs.laws.read_files_may_be_found.Goals as goal

pub returns : goal.returns
returns c = read_files
