use Rattle.std.proofs.Common.{Option, ap, ◌∙◌}
use Rattle.mapfile_text.specs.declared.state.MapState.{MapState}
use Rattle.rescue_core.specs.RunState.{RunState}
use Rattle.task_files.proofs.PlacedLemmas.{sound_settings}
use Rattle.task_rescue.proofs.BeginLemmas.{begun_with, begun_over, shows_nothing, shows_loaded}
use Rattle.task_rescue.proofs.ready.begin.Goals as goal
use Rattle.task_rescue.proofs.ready.begin.Goals.{in-Some, in_default}

pub start-rescue-requires-clause-sound : goal.start-rescue-requires-clause-sound
start-rescue-requires-clause-sound c = sound_settings _ _ c.settings_for-settings.ensures c.requires.limits

pub returns : goal.returns
returns c = λ end maps statuses state placed fits ready.
    let begun = begun_over c.settings_for-settings.result c.args.ready.domain c.args.names c.args.heading.line
    c.args.command.options end maps statuses state c.args.moment c.args.heard c.match-state.rescue c.requires.limits placed
    fits c.settings_for-settings.ensures ready.domain in
    let by : Option MapState → RunState = λ at. begun_with c.settings_for-settings.result c.args.ready.domain c.args.names
    c.args.heading.line c.args.command.options statuses at c.args.moment c.args.heard in
    elim c.match-state.branch [
      | in-Some w ↦ begun (shows_loaded _ _ _ _ c.args.command.options statuses _ _ _ w.in-Some.state _ _ _ _ _ w.rescue-is
          w.show_loaded.ensures c.start-rescue.ensures ready.map c.copying_from-from.ensures w.in-Some.is ∙ ap by ready.state_is)
      | in_default w ↦ begun (shows_nothing _ _ _ _ c.args.command.options statuses _ _ _ _ _ _ _ w.rescue-is
          c.start-rescue.ensures ready.map c.copying_from-from.ensures w.in_default.is ∙ ap by ready.state_is)
    ]
