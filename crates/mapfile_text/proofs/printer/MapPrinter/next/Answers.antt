use Rattle.mapfile_text.proofs.PieceLemmas.{piece_given}
use Rattle.mapfile_text.proofs.printer.MapPrinter.next.Goals as goal

pub returns-clause-pieces : goal.returns-clause-pieces
returns-clause-pieces g c =
    rw (← c.self.view_is) (piece_given c.is_empty.result _ _ _ c.fill-self-inside.ensures.piece c.fill-self-inside.ensures.rest c.is_empty.ensures)
