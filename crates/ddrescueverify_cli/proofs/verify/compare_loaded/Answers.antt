-- What a comparison over a loaded map is handed, and what it came to.
use Rattle.std.proofs.Common.{refl}
use Rattle.std.proofs.lemmas.Result.{err_from_is_err_and}
use Rattle.faulty_source.proofs.Keeping.{stays_self}
use Rattle.ddrescueverify_cli.specs.Steps.{Beyond, Halted, Starved}
use Rattle.ddrescueverify_cli.proofs.ComparingLemmas.{are_placed, compares_as, far_by, halt_cause, is_past, is_short, is_within, near_by}
use Rattle.ddrescueverify_cli.proofs.verify.compare_loaded.Goals as goal

pub returns-then-not-places_fit-clause-stops : goal.returns-then-not-places_fit-clause-stops
returns-then-not-places_fit-clause-stops g c =
    Beyond (far_by c.args.options.now c.args.end _ c.unwrap_or-to.ensures (c.if-not-places_fit.ensures.beyond refl)) refl refl refl

pub returns-in_err-compared-clause-stops : goal.returns-in_err-compared-clause-stops
returns-in_err-compared-clause-stops g c =
    let p = err_from_is_err_and c.from_residual.result c.from_residual.ensures.1 in
    rw (p.1, p.2)
    (Starved (near_by c.args.options.now c.args.end _ c.unwrap_or-to.ensures (c.if-not-places_fit.ensures.fit refl)) refl refl refl)

pub returns-in_err-compared-clause-cause : goal.returns-in_err-compared-clause-cause
returns-in_err-compared-clause-cause g c =
    let p = err_from_is_err_and c.from_residual.result c.from_residual.ensures.1 in
    rw (p.1, p.2)
    (record { stops = tt; also = tt; counts = record { faults = refl; losses = refl; site_faults = refl } })

pub compare-requires-clause-sound : goal.compare-requires-clause-sound
compare-requires-clause-sound g c =
    let o = c.args.options.now in
    let statuses = c.args.loaded.now.tiles.statuses in
    record {
      sector = c.requires.limits.sector;
      small = c.requires.limits.sector_max;
      short = is_short o c.args.end statuses _ c.in_ok-compared.ensures c.requires.end;
      past = is_past o c.args.end statuses _ c.in_ok-compared.ensures;
      placed = are_placed o c.args.end statuses _ c.in_ok-compared.ensures _ (c.if-not-places_fit.ensures.fit refl);
    }

pub compare-requires-clause-within : goal.compare-requires-clause-within
compare-requires-clause-within g c =
    is_within c.args.options.now c.args.end c.args.loaded.now.tiles.statuses _ c.in_ok-compared.ensures c.requires.long

pub returns-then-not-places_fit-clause-source : goal.returns-then-not-places_fit-clause-source
returns-then-not-places_fit-clause-source g c = stays_self _

pub returns-in_err-compared-clause-source : goal.returns-in_err-compared-clause-source
returns-in_err-compared-clause-source g c = stays_self _

pub returns-in-Ok-clause-compares : goal.returns-in-Ok-clause-compares
returns-in-Ok-clause-compares g c =
    compares_as c.args.options.now c.args.end c.args.loaded.now.tiles.statuses _ c.in_ok-compared.ensures _
    c.unwrap_or-to.ensures _ _ _ _ _ _ c.in-Ok.ensures.compares

pub returns-clause-stops : goal.returns-clause-stops
returns-clause-stops g c =
    Halted c.in-Err.halt
    (near_by c.args.options.now c.args.end _ c.unwrap_or-to.ensures (c.if-not-places_fit.ensures.fit refl))
    c.answer_of_halt.ensures
    (compares_as c.args.options.now c.args.end c.args.loaded.now.tiles.statuses _ c.in_ok-compared.ensures _
    c.unwrap_or-to.ensures _ _ _ _ _ _ c.in-Err.ensures.compares)

pub returns-clause-cause : goal.returns-clause-cause
returns-clause-cause g c =
    rw c.answer_of_halt.ensures
    (halt_cause c.in-Err.halt _ _ _ _ c.compare.ensures.source.faults c.in-Err.ensures.counts)
