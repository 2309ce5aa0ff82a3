use Rattle.std.proofs.Common.{length, refl, sym, subst}
use Rattle.rescue_domain.specs.Parts.{covers}
use Rattle.run_options.specs.declared.settings.Settings.{Settings}
use Rattle.run_options.specs.Settings.{Suits}
use Rattle.task_files.proofs.PlacedLemmas.{asked_placed, sound_settings}
use Rattle.task_sweeps.proofs.sweep.make_job.Goals as goal

pub returns : goal.returns
returns c = λ limit maps statuses state placed ready. record {
  settings_are = c.settings_for.ensures;
  sound = sound_settings _ _ c.settings_for.ensures c.requires.limits;
  domain = ready.domain;
  suits = subst (λ (s : Settings). Suits s (covers c.args.ready.domain) (length statuses)) (sym c.settings_for.ensures)
      ready.suits;
  places = asked_placed _ c.args.ready.domain c.args.command.options limit maps c.settings_for.ensures placed ready.domain;
  map = ready.map;
  state_is = ready.state_is;
  names_are = refl;
  heading_is = refl;
  moment_is = refl;
  heard_is = refl;
}
