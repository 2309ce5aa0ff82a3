use Rattle.ddrescueshow_cli.proofs.ProgressLemmas.{progress_fits}
use Rattle.ddrescueshow_cli.proofs.laws.progress_fits.Goals as goal

pub returns : goal.returns
returns c = progress_fits
