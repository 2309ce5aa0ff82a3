use Rattle.rescue_lines.proofs.LineLemmas.{phase_strips}
use Rattle.rescue_lines.proofs.lines.read_phase.Goals as goal

pub returns : goal.returns
returns c =
    phase_strips c.args.current _ _ _ _ _ _ c.phase_name.ensures.text c.read.ensures c.read-2.ensures
    c.read_number-pass.ensures
