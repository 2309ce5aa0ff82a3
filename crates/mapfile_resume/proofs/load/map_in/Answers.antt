-- The state of a map is within the limits.
use Rattle.mapfile_resume.proofs.ReadLemmas.{within_limits}
use Rattle.mapfile_resume.proofs.load.map_in.Goals as goal

pub returns-in-Ok-clause-limits : goal.returns-in-Ok-clause-limits
returns-in-Ok-clause-limits c = within_limits c.args.text.now c.args.mode c.in-Ok.map c.in-Ok.ensures.read
