use Rattle.std.proofs.Common.{rules, None, refl}
use Rattle.task_files.specs.Steps.{maps_read}
use Rattle.task_files.specs.Settings.{settings_by}
use Rattle.task_rescue.proofs.BeginLemmas.{suits_made, short_made}
use Rattle.task_rescue.proofs.ready.make_ready.Goals as goal

pub returns-clause-begins : goal.returns-clause-begins
returns-clause-begins c =
    let loaded = c.args.loaded in
    let options = c.args.command.options in
    record {
      suits = suits_made (settings_by options) c.in_ok-domain.domain options loaded.end
          (maps_read options loaded.domain_map None loaded.map) loaded.map.tiles.statuses _ refl
          (c.in_ok-domain.ensures None) c.requires.fits.long c.in_ok-prepare.ensures.prepared;
      short = short_made c.in_ok-domain.domain options loaded.map.tiles.statuses _ c.requires.fits.short
          c.in_ok-prepare.ensures.prepared;
      pos = c.requires.fits.pos;
      pass = c.requires.fits.pass;
      room = search rules;
    }
