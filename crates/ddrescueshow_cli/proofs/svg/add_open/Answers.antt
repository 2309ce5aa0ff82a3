use Rattle.std.proofs.Common.{append_assoc}
use Rattle.ddrescueshow_cli.proofs.svg.add_open.Goals as goal

pub returns : goal.returns
returns c =
    rw (c.in_ok-add_number-2.ensures, c.in_ok-add_number.ensures, c.in_ok-add.ensures, c.rows.ensures, c.max.ensures) (simp append_assoc)
