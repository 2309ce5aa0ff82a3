use Rattle.ddrescueshow_cli.proofs.SvgLemmas.{svg_is_short}
use Rattle.ddrescueshow_cli.proofs.laws.svg_is_short.Goals as goal

pub returns : goal.returns
returns c = svg_is_short
