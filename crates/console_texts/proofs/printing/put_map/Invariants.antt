-- What was put and what the printer has left are the text.
use Rattle.std.proofs.Common.{length}
use Rattle.mapfile_text.specs.LeftOf.{left_of}
use Rattle.mapfile_text.specs.Printed.{printed}
use Rattle.rescue_console.proofs.PutLemmas.{PartlyPut}
use Rattle.console_texts.proofs.printing.put_map.Given as goal

abbrev pub invariant-pieces : goal.invariant-pieces
invariant-pieces g l =
    PartlyPut (printed l.heading l.state (g.T.Tiles.statuses l.tiles))
    (left_of l.printer l.heading l.state (g.T.Tiles.statuses l.tiles)) (g.P.Console.state l.fn.console)
    (g.P.Console.state l.console)

abbrev pub decreases-pieces : goal.decreases-pieces
decreases-pieces g l = length (left_of l.printer l.heading l.state (g.T.Tiles.statuses l.tiles))
