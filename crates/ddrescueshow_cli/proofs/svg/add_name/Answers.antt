use Rattle.std.proofs.Common.{append_assoc}
use Rattle.ddrescueshow_cli.proofs.svg.add_name.Goals as goal

pub returns : goal.returns
returns c =
    rw (c.in_ok-add-3.ensures, c.in_ok-add-2.ensures, c.in_ok-add.ensures) (simp append_assoc)
