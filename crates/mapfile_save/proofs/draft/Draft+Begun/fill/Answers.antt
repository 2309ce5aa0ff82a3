-- A piece goes from what is left of the text into the draft.
use Rattle.std.proofs.Common.{arith}
use Rattle.std.proofs.lemmas.List.{length-drop}
use Rattle.mapfile_text.specs.LeftOf.{left_of}
use Rattle.mapfile_save.proofs.FillLemmas.{nothing_filled, piece_filled, piece_refused, filled_after}
use Rattle.mapfile_save.proofs.draft.Draft+Begun.fill.Goals as goal

pub loop-state-init : goal.loop-state-init
loop-state-init g c =
    nothing_filled _ _ _ (c.begin-printer.ensures c.args.heading.now c.args.state (g.T.Tiles.statuses c.args.tiles.now)) c.requires.drafting

pub returns-in_default-clause-call : goal.returns-in_default-clause-call
returns-in_default-clause-call g c =
    rw c.at.ensures
    (piece_refused _ _ _ _ _ _ _ _ _ c.loop-state.invariant c.loop-state-test.ensures.pieces c.as_slice.ensures.value c.in_default.ensures)

pub loop-state-smaller : goal.loop-state-smaller
loop-state-smaller g c =
    let left = left_of c.loop-state.printer c.args.heading.now c.args.state (g.T.Tiles.statuses c.args.tiles.now) in
    rw c.next.ensures.rest (omega (arith, length-drop 4096 left))

pub loop-state-preserved : goal.loop-state-preserved
loop-state-preserved g c =
    piece_filled _ _ _ _ _ _ _ _ _ c.loop-state.invariant c.loop-state-test.ensures.pieces c.as_slice.ensures.value c.in-Ok.ensures

pub returns-clause-filled : goal.returns-clause-filled
returns-clause-filled g c = λ t.
    filled_after _ _ _ _ c.loop-state.invariant t (c.requires.begun t)
