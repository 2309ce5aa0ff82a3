use Rattle.std.proofs.Common.{length, refl}
use Rattle.task_files.specs.Asked.{Maps}
use Rattle.task_files.specs.Steps.{maps_read}
use Rattle.task_files.specs.Settings.{settings_by}
use Rattle.task_files.proofs.PlacedLemmas.{asked_suits}
use Rattle.task_sweeps.proofs.sweep.make_sweep.Goals as goal

pub returns : goal.returns
returns c = λ test.
    let loaded = c.args.loaded in
    let maps : Maps = maps_read c.args.command.options loaded.domain_map test loaded.map in
    record {
      domain = c.in_ok-domain.ensures test;
      map = refl;
      state_is = refl;
      opening = λ line. c.in_ok-opening.ensures line loaded.end maps (length loaded.map.tiles.statuses) c.requires.within
          (c.in_ok-domain.ensures test);
      suits = asked_suits (settings_by c.args.command.options) c.in_ok-domain.domain c.args.command.options loaded.end maps
          (length loaded.map.tiles.statuses) refl (c.in_ok-domain.ensures test) c.requires.within;
    }
