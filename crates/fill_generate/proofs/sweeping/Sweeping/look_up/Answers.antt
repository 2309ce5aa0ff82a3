use Rattle.std.proofs.Common.{◌≡◌, ◌≤◌, ◌++◌, false, List, length, take, drop, refl, ap, ◌∙◌, arith}
use Rattle.std.specs.Result.{is_err}
use Rattle.std.proofs.lemmas.List.{length-take-le}
use Rattle.block_list.specs.declared.status.Status.{Status}
use Rattle.sweep_rules.specs.Sweep.{is_generated}
use Rattle.fill_generate.specs.Marking.{finished_at, piece_at}
use Rattle.fill_generate.specs.SweepState.{SweepState, state_at, setting_of, sweep_at, standing}
use Rattle.fill_generate.specs.Steps.{got_at}
use Rattle.fill_generate.proofs.MarkLemmas.{length_finished}
use Rattle.fill_generate.proofs.LookLemmas.{returned, spare_enough, sweeps_on, front_is, looks_up}
use Rattle.fill_generate.proofs.sweeping.Sweeping.look_up.Goals as goal

pub mark_held-requires-clause-spare : goal.mark_held-requires-clause-spare
mark_held-requires-clause-spare g c =
    let size : length (take c.args.piece.len c.args.buffer.now) ≡ c.args.piece.len =
    length-take-le c.args.piece.len c.args.buffer.now (omega (arith, c.requires.found.few, c.requires.room)) in
    let fits : c.in-Ok.read ≤ length c.image_read.new.buf =
    omega (arith, size, c.in-Ok.ensures.count, c.image_read.auto.buf) in
    let some : is_err c.reserve.result ≡ false = grind (arith, c.is_err.ensures.value, c.if-is_err.false) in
    let count = front_is c.in-Ok.read c.image_read.new.buf (drop c.args.piece.len c.args.buffer.now) fits in
    spare_enough c.args.piece.pos _ c.args.piece.len c.self.inside.settings.sector c.room_for-room.result _
    c.self.invariant.0.sound.sector (omega (arith, count, size, c.in-Ok.ensures.count)) c.room_for-room.ensures
    (returned c.reserve.result _ c.reserve.ensures.spare some)

pub invariant_of-self-2 : goal.invariant_of-self-2
invariant_of-self-2 g c =
    let i = c.self.inside in
    let p = c.args.piece in
    let size : length (take p.len c.args.buffer.now) ≡ p.len =
    length-take-le p.len c.args.buffer.now (omega (arith, c.requires.found.few, c.requires.room)) in
    let fits : c.in-Ok.read ≤ length c.image_read.new.buf =
    omega (arith, size, c.in-Ok.ensures.count, c.image_read.auto.buf) in
    let count = front_is c.in-Ok.read c.image_read.new.buf (drop p.len c.args.buffer.now) fits in
    let r : SweepState = state_at i.settings i.domain (g.T.Tiles.statuses i.tiles) i.mode i.cursor i.keeper in
    let got = take c.in-Ok.read (c.image_read.new.buf ++ drop p.len c.args.buffer.now) in
    let marks = c.mark_held.ensures (setting_of r) p.len refl (omega (arith, count, size, c.in-Ok.ensures.count)) in (
      sweeps_on r (sweep_at (g.T.Tiles.statuses c.mark_held.new.tiles) i.cursor i.keeper.tally)
          (ap length marks
          ∙ length_finished (is_generated (setting_of r) (piece_at p.pos p.len got)) (g.T.Tiles.statuses c.reserve.new.self)
          ∙ ap length c.reserve.ensures.statuses)
          c.self.invariant.0,
      c.self.invariant.1,
      c.self.invariant.2,
    )

pub returns-clause-looked : goal.returns-clause-looked
returns-clause-looked g c =
    let i = c.self.inside in
    let p = c.args.piece in
    let size : length (take p.len c.args.buffer.now) ≡ p.len =
    length-take-le p.len c.args.buffer.now (omega (arith, c.requires.found.few, c.requires.room)) in
    let fits : c.in-Ok.read ≤ length c.image_read.new.buf =
    omega (arith, size, c.in-Ok.ensures.count, c.image_read.auto.buf) in
    let count = front_is c.in-Ok.read c.image_read.new.buf (drop p.len c.args.buffer.now) fits in
    let r : SweepState = state_at i.settings i.domain (g.T.Tiles.statuses i.tiles) i.mode i.cursor i.keeper in
    let got = take c.in-Ok.read (c.image_read.new.buf ++ drop p.len c.args.buffer.now) in
    let marks = c.mark_held.ensures (setting_of r) p.len refl (omega (arith, count, size, c.in-Ok.ensures.count)) in
    looks_up c.args.self.now _ p c.image_read.new.buf (drop p.len c.args.buffer.now) c.place_of-place.result
    (length (take p.len c.args.buffer.now)) c.in-Ok.read _ _ c.place_of-place.ensures size
    (omega (arith, size, c.in-Ok.ensures.count)) (omega (arith, size, c.image_read.auto.buf))
    (ap (λ (map : List Status). state_at i.settings i.domain map i.mode i.cursor i.keeper)
    (marks ∙ ap (finished_at (is_generated (setting_of r) (piece_at p.pos p.len got))) c.reserve.ensures.statuses)
    ∙ ap (λ (q : SweepState). standing q (record q.sweep {
      map = finished_at (is_generated (setting_of q) (got_at p got)) q.sweep.map;
    })) c.self.view_is)
    c.in-Ok.ensures.call.done c.in-Ok.ensures.call.kept c.in-Ok.ensures.read
