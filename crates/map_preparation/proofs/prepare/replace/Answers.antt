use Rattle.std.proofs.Common.{◌≡◌, ◌≢◌, ◌+◌, ◌-◌, ◌≤◌, true, length, arith}
use Rattle.block_list.proofs.Places.{length-marked}
use Rattle.map_preparation.proofs.PrepareLemmas.{replaced_all, replaced_more, range_within}
use Rattle.map_preparation.proofs.RoomLemmas.{spare_left, spends_more}
use Rattle.map_preparation.proofs.prepare.replace.Goals as goal

pub set-requires-clause-spare : goal.set-requires-clause-spare
set-requires-clause-spare g c =
    let apart : c.args.from ≢ c.args.to = λ e. let is : c.is.result ≡ true = c.is.ensures.1 e in cc in
    spare_left _ _ _ _ _ _ c.loop-range.invariant.0 _ _ c.in-Some.ensures.first c.in-Some.ensures.range _ _ _
    c.loop-range.invariant.1 (c.requires.room.changes.some apart) c.requires.room.enough

pub loop-range-smaller : goal.loop-range-smaller
loop-range-smaller g c =
    let mid = g.T.Tiles.statuses c.loop-range.tiles in
    let range = c.in-Some.range in
    let within = range_within _ _ _ _ _ _ c.loop-range.invariant.0 _ _ c.in-Some.ensures.first c.in-Some.ensures.range in
    let there : range.from + (range.to - range.from) ≤ length mid = omega (arith, within, c.in-Some.ensures.range.begun) in
    let size : length (g.T.Tiles.statuses c.set.new.self) ≡ length mid
    = rw c.set.ensures.marked (length-marked mid range.from (range.to - range.from) c.args.to there) in
    omega (arith, size, within, c.in-Some.ensures.range.begun, c.in-Some.ensures.first.after)

pub loop-range-preserved : goal.loop-range-preserved
loop-range-preserved g c = (
  replaced_more _ _ _ _ _ _ c.loop-range.invariant.0 _ _ c.in-Some.ensures.first c.in-Some.ensures.range _
      c.set.ensures.marked,
  spends_more _ _ _ _ _ _ c.loop-range.invariant.0 _ _ c.in-Some.ensures.first c.in-Some.ensures.range _ _ _
      c.set.ensures.spare c.loop-range.invariant.1,
)

pub returns-clause-changed : goal.returns-clause-changed
returns-clause-changed g c = replaced_all _ _ _ _ _ _ c.loop-range.invariant.0 c.in_default.ensures.none
