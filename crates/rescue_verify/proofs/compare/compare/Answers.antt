-- Each piece is one look more.
use Rattle.std.proofs.Common.{◌-◌, ◌∙◌, arith, refl, rules}
use Rattle.std.proofs.lemmas.Result.{err_from_is_err_and}
use Rattle.faulty_source.proofs.Keeping.{stays_more, stays_self}
use Rattle.rescue_verify.proofs.CompareLemmas.{came_to_halt, can_take, ends_short, halted_counts, none_yet, nothing_compared, takes_grow, takes_one}
use Rattle.rescue_verify.proofs.compare.compare.Goals as goal

pub returns-in_err-buffers-clause-source : goal.returns-in_err-buffers-clause-source
returns-in_err-buffers-clause-source g c = stays_self _

pub returns-in_err-buffers-clause-compares : goal.returns-in_err-buffers-clause-compares
returns-in_err-buffers-clause-compares g c =
    let p = err_from_is_err_and c.from_residual.result c.from_residual.ensures.1 in
    rw (p.1, p.2) (nothing_compared _ _ _ _)

pub returns-in_err-buffers-clause-counts : goal.returns-in_err-buffers-clause-counts
returns-in_err-buffers-clause-counts g c =
    let p = err_from_is_err_and c.from_residual.result c.from_residual.ensures.1 in
    rw (p.1, p.2) (refl, refl)

pub pieces-init : goal.pieces-init
pieces-init g c = record {
  up_to = none_yet _ _ _ _;
  source = stays_self _;
  losses = refl;
  faults = refl;
  site = search rules;
  long = refl;
  given = search rules;
  there = search rules;
  counted = record { counts = omega arith; part = omega arith };
}

pub compare_piece-requires-clause-piece : goal.compare_piece-requires-clause-piece
compare_piece-requires-clause-piece g c =
    can_take _ _ c.in-Some.piece (g.T.Tiles.statuses c.args.tiles.now) _ c.requires.sound c.requires.within
    c.pieces.invariant.long c.in-Some.ensures.next

pub compare_piece-requires-clause-run_place : goal.compare_piece-requires-clause-run_place
compare_piece-requires-clause-run_place g c = ends_short _ _ _ c.requires.sound c.in-Some.ensures.run

pub compare_piece-requires-clause-tally : goal.compare_piece-requires-clause-tally
compare_piece-requires-clause-tally g c = record {
  counts = omega (arith, c.pieces.invariant.counted.counts, c.in-Some.ensures.next.is_piece.first.after);
  part = c.pieces.invariant.counted.part;
}

pub compare_piece-requires-clause-room : goal.compare_piece-requires-clause-room
compare_piece-requires-clause-room g c = record {
  given = omega (arith, c.pieces.invariant.given, c.in-Some.ensures.next.few);
  there = omega (arith, c.pieces.invariant.there, c.in-Some.ensures.next.few);
}

pub returns-in_err-compare_piece-clause-compares : goal.returns-in_err-compare_piece-clause-compares
returns-in_err-compare_piece-clause-compares g c =
    let p = err_from_is_err_and c.from_residual-in_err-compare_piece.result c.from_residual-in_err-compare_piece.ensures.1 in
    rw (p.1, p.2)
    (came_to_halt _ _ _ c.in-Some.piece _ _ _ _ _ _ _ _ _ _ c.pieces.invariant.up_to c.pieces.invariant.source.keeps
    c.pieces.invariant.site.keeps.tells c.in-Some.ensures.next c.in_err-compare_piece.ensures.halts)

pub returns-in_err-compare_piece-clause-counts : goal.returns-in_err-compare_piece-clause-counts
returns-in_err-compare_piece-clause-counts g c =
    let p = err_from_is_err_and c.from_residual-in_err-compare_piece.result c.from_residual-in_err-compare_piece.ensures.1 in
    rw (p.1, p.2)
    (halted_counts _ _ (c.in-Some.piece.to - c.in-Some.piece.from) _ _ _ _ _ _ _ c.pieces.invariant.losses c.pieces.invariant.faults
    c.in_err-compare_piece.ensures.halts)

pub returns-in_err-compare_piece-clause-source : goal.returns-in_err-compare_piece-clause-source
returns-in_err-compare_piece-clause-source g c =
    stays_more _ _ _ c.pieces.invariant.source c.compare_piece.ensures.source

pub pieces-preserved : goal.pieces-preserved
pieces-preserved g c =
    let next = c.in-Some.ensures.next in
    let takes = c.in_ok-compare_piece.ensures.takes in
    let can = can_take _ _ c.in-Some.piece (g.T.Tiles.statuses c.args.tiles.now) (g.T.Tiles.statuses c.pieces.tiles)
    c.requires.sound c.requires.within c.pieces.invariant.long next in
    let before = next.is_piece.first.after in
    let grows = takes_grow c.in-Some.piece _ _ _ _ _ _ _ _ takes can (record {
      counts = omega (arith, c.pieces.invariant.counted.counts, before);
      part = c.pieces.invariant.counted.part;
    }) in
    record {
      up_to = takes_one _ _ c.in-Some.piece _ _ _ _ _ _ _ _ _ _ _ c.pieces.invariant.up_to c.pieces.invariant.source
          c.pieces.invariant.site next takes;
      source = stays_more _ _ _ c.pieces.invariant.source c.compare_piece.ensures.source;
      losses = takes.sees.read.losses ∙ c.pieces.invariant.losses;
      faults = takes.sees.made.faults ∙ c.pieces.invariant.faults;
      site = search rules;
      long = grows.long ∙ c.pieces.invariant.long;
      given = c.compare_piece.ensures.room.given ∙ c.pieces.invariant.given;
      there = c.compare_piece.ensures.room.there ∙ c.pieces.invariant.there;
      counted = grows.counted;
    }
