-- By the piece that comes next.
use Rattle.std.proofs.Common.{refl, ◌∙◌, arith}
use Rattle.mapfile_text.specs.Printed.{printed}
use Rattle.rescue_console.proofs.PutLemmas.{nothing_put, next_put, next_broke, shorter}
use Rattle.console_texts.proofs.printing.put_map.Goals as goal

pub pieces-init : goal.pieces-init
pieces-init g c = nothing_put _ _ _ (c.begin-printer.ensures _ _ _)

pub pieces-smaller : goal.pieces-smaller
pieces-smaller g c =
    shorter 4096 _ _ c.next.ensures.rest (omega arith) (c.pieces-test.ensures.more.0 refl)

pub pieces-preserved : goal.pieces-preserved
pieces-preserved g c =
    next_put 4096 (printed c.args.heading.now c.args.state (g.T.Tiles.statuses c.args.tiles.now)) _ _ _ _ _ _
    c.pieces.invariant (c.as_slice.ensures.value ∙ c.next.ensures.piece) c.next.ensures.rest c.in-Ok.ensures.puts

pub returns-in_default-clause-fault : goal.returns-in_default-clause-fault
returns-in_default-clause-fault g c =
    next_broke 4096 (printed c.args.heading.now c.args.state (g.T.Tiles.statuses c.args.tiles.now)) _ _ _ _ _
    c.pieces.invariant (c.as_slice.ensures.value ∙ c.next.ensures.piece) c.in_default.ensures.fails
