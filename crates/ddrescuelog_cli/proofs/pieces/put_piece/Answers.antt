-- A piece is put by one put.
use Rattle.ddrescuelog_cli.proofs.PieceLemmas.{one_piece}
use Rattle.ddrescuelog_cli.proofs.pieces.put_piece.Goals as goal

pub returns : goal.returns
returns g c =
    one_piece c.args.piece.now c.put.result (g.P.Console.state c.args.console.now) (g.P.Console.state c.put.new.self)
    (c.requires.some, c.requires.short) c.put.ensures
