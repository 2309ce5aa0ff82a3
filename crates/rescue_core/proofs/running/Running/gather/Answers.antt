use Rattle.block_list.specs.declared.block.Range.{Range}
use Rattle.std.proofs.Common.{◌+◌, refl, sym, subst, arith, rules}
use Rattle.transfer_token.specs.declared.fetch.Cut.{Cut}
use Rattle.transfer_token.specs.Tokens.{IsCut}
use Rattle.rescue_core.specs.RunState.{setting_in, run_of}
use Rattle.rescue_core.specs.Turning.{Lost, Unwritten}
use Rattle.rescue_core.specs.TurnParts.{IsCutAt}
use Rattle.rescue_core.proofs.TurnLemmas.{request_fits, request_place}
use Rattle.rescue_core.proofs.running.Running.gather.Goals as goal

pub read_timed-requires : goal.read_timed-requires
read_timed-requires g c =
    let b = run_of g.T.Tiles c.args.self.now in
    let fits = request_fits b _ c.args.request.pos c.args.request.len c.requires.run.running c.requires.request in
    record {
      some = fits.some;
      fits = omega (arith, fits.few);
      sector = c.requires.run.running.sound.sector;
      opened = c.requires.«open».input;
      short = fits.short;
    }

pub overflow_add-at : goal.overflow_add-at
overflow_add-at g c =
    let b = run_of g.T.Tiles c.args.self.now in
    let place = request_place b _ c.args.request.pos c.args.request.len c.requires.run.running c.requires.places
    c.requires.request in
    omega (arith, place)

pub land_kept-requires-clause-fits : goal.land_kept-requires-clause-fits
land_kept-requires-clause-fits g c =
    let b = run_of g.T.Tiles c.args.self.now in
    let fits = request_fits b _ c.args.request.pos c.args.request.len c.requires.run.running c.requires.request in
    let few = fits.few in
    search rules

pub land_kept-requires-clause-short : goal.land_kept-requires-clause-short
land_kept-requires-clause-short g c =
    let b = run_of g.T.Tiles c.args.self.now in
    let place = request_place b _ c.args.request.pos c.args.request.len c.requires.run.running c.requires.places
    c.requires.request in
    search rules

pub returns-in_default-clause-halted : goal.returns-in_default-clause-halted
returns-in_default-clause-halted g c =
    Lost refl refl (search rules) refl c.in_default.ensures.lost_clock.0 c.in_default.ensures.lost_clock.1
    c.in_default.ensures.lost_clock.2 refl

pub returns-in_default-land_kept-clause-halted : goal.returns-in_default-land_kept-clause-halted
returns-in_default-land_kept-clause-halted g c =
    let b = run_of g.T.Tiles c.args.self.now in
    let t = c.in-Ok.ensures.timed in
    let from = t.is.pos in
    let cut_at : IsCutAt c.in-Ok.timed.fetched c.read_timed.new.buf
    (c.saturating_sub.result + b.settings.output_position) (setting_in b) t.event.reading
    = record { cut = t.cut; front = t.front; at_is = cc } in
    Unwritten refl refl t.event t.is (c.in_default-land_kept.ensures.named (setting_in b) t.event.reading cut_at)
    (c.in_default-land_kept.ensures.failed (setting_in b) t.event.reading cut_at) refl

pub returns-clause-gathered : goal.returns-clause-gathered
returns-clause-gathered g c =
    let b = run_of g.T.Tiles c.args.self.now in
    let t = c.in-Ok.ensures.timed in
    let from = t.is.pos in
    let cut : IsCut b.settings.sector t.event.reading c.in-Ok-land_kept.kept
    = subst (λ (f : Cut Range). IsCut b.settings.sector t.event.reading f) (sym c.in-Ok-land_kept.ensures.kept) t.cut in
    record {
      event = t.event;
      is = t.is;
      gathered = record {
        pos = t.is.pos;
        asked = t.is.asked;
        few = t.is.few;
        cut = cut;
        turn = c.turn_after-turn.ensures t.event
            (record { pos = t.is.pos; asked = t.is.asked; count = t.count; end = t.ended })
            (c.kept_size.ensures b.settings.sector t.event.reading cut) t.before t.after;
        after = t.after;
      };
      writes = c.in-Ok-land_kept.ensures.written (setting_in b) t.event.reading
          (record { cut = t.cut; front = t.front; at_is = cc });
    }
