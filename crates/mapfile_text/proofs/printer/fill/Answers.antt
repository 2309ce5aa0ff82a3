-- What was appended and what is left are what was left; the piece is full, or nothing is left.
use Rattle.std.proofs.Common.{◌≡◌, [], arith, ◌∙◌, inl, inr}
use Rattle.mapfile_text.specs.LeftOf.{left_of}
use Rattle.mapfile_text.proofs.TakenOff.{piece_is, rest_is}
use Rattle.mapfile_text.proofs.PartLemmas.{GoesOn, goes_on, left_past, not_there}
use Rattle.mapfile_text.proofs.printer.fill.Goals as goal

went : (g : _) (c : goal.After-after-place g)
    → GoesOn c.args.heading.now c.args.state (g.T.Tiles.statuses c.args.tiles.now) c.loop-state.place c.after-place.result
    c.loop-state.out.items c.append_part-len.new.out.items c.remaining_capacity-room.result
went g c =
    goes_on c.args.heading.now c.args.state (g.T.Tiles.statuses c.args.tiles.now) c.loop-state.place c.after-place.result
    c.loop-state.out.items c.append_part-len.new.out.items c.append_part-len.result.1 c.append_part-len.result.0 c.remaining_capacity-room.result
    c.remaining_capacity-room.ensures c.append_part-len.ensures
    c.after-place.ensures.past c.after-place.ensures.whole c.after-place.ensures.cut

-- nothing is left where the loop ended
gone : (g : _) (c : goal.After-loop-state g) → left_of c.loop-state.place c.args.heading.now c.args.state (g.T.Tiles.statuses c.args.tiles.now) ≡ []
gone g c =
    let there = rw c.end-end.ensures.end at c.is_there.ensures.1 in
    left_past c.args.heading.now c.args.state (g.T.Tiles.statuses c.args.tiles.now) c.loop-state.place
    (not_there c.is_there.result c.loop-state-test.false there)

pub returns-then-room-eq0-clause-piece : goal.returns-then-room-eq0-clause-piece
returns-then-room-eq0-clause-piece g c =
    piece_is _ _ _ 4096 c.loop-state.invariant.all c.loop-state.invariant.fits (inl (omega (arith, c.remaining_capacity-room.ensures)))

pub returns-then-room-eq0-clause-rest : goal.returns-then-room-eq0-clause-rest
returns-then-room-eq0-clause-rest g c =
    rest_is _ _ _ 4096 c.loop-state.invariant.all c.loop-state.invariant.fits (inl (omega (arith, c.remaining_capacity-room.ensures)))

pub loop-state-preserved : goal.loop-state-preserved
loop-state-preserved g c = record { fits = (went g c).fits; all = (went g c).same ∙ c.loop-state.invariant.all }

pub loop-state-smaller : goal.loop-state-smaller
loop-state-smaller g c = (went g c).less c.if-room-eq0.false

pub returns-clause-piece : goal.returns-clause-piece
returns-clause-piece g c =
    piece_is _ _ _ 4096 c.loop-state.invariant.all c.loop-state.invariant.fits
    (inr (gone g c))

pub returns-clause-rest : goal.returns-clause-rest
returns-clause-rest g c =
    rest_is _ _ _ 4096 c.loop-state.invariant.all c.loop-state.invariant.fits
    (inr (gone g c))
