use Rattle.std.proofs.Common.{ap, refl, sym}
use Rattle.rescue_rules.specs.declared.tally.Tally.{Tally}
use Rattle.rescue_core.proofs.BeginLemmas.{run_started}
use Rattle.rescue_core.proofs.phases.Rescue+Copying+T.start.Goals as goal

pub invariant_of-result : goal.invariant_of-result
invariant_of-result g c =
    let a = c.args in
    let progress = c.first_progress-progress in (
      run_started g.T.Tiles _ a.loaded refl c.requires.sound c.requires.suits c.requires.short progress.ensures.pass
          (progress.ensures.cursor a.domain a.names a.heading.line (g.T.Tiles.statuses a.tiles) (sym c.end.ensures.end))
          progress.ensures.mode progress.ensures.skip c.requires.room c.requires.program
          (ap (λ (t : Tally). t.over) c.first-tally.ensures) c.counts_at_first-counts.ensures,
      tt,
    )
