use Rattle.std.proofs.Common.{◌≡◌, ◌≢◌, ◌+◌, true, sym, ◌∙◌}
use Rattle.map_preparation.proofs.RoomLemmas.{found_sum, counted_more, counted_all}
use Rattle.map_preparation.proofs.prepare.room_after.Goals as goal

pub loop-range-preserved : goal.loop-range-preserved
loop-range-preserved g c =
    let more : c.in_ok-room.room ≡ c.loop-range.room + 2
    = found_sum _ _ _ _ _ c.checked_add.ensures (sym c.ok_or.ensures.value ∙ c.in_ok-room.was) in
    counted_more _ _ _ _ _ _ c.loop-range.invariant _ _ _ c.in-Some.ensures.first c.in-Some.ensures.range more

pub returns : goal.returns
returns g c =
    let apart : c.args.from ≢ c.args.to = λ e. let is : c.is.result ≡ true = c.is.ensures.1 e in cc in
    counted_all _ _ _ _ _ _ c.loop-range.invariant _ apart c.in_default.ensures.none
