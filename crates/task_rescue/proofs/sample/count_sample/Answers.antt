use Rattle.std.proofs.Common.{◌∙◌, None, ap}
use Rattle.ddrescue_words.specs.Asking.{told_by}
use Rattle.mapfile_text.specs.HeadingLines.{HeadingLines}
use Rattle.task_files.specs.Steps.{maps_read}
use Rattle.task_rescue.proofs.SampledLemmas.{names_alike, sample_counted, sample_placed}
use Rattle.task_rescue.proofs.sample.count_sample.Goals as goal

pub count_run-requires-clause-copying : goal.count_run-requires-clause-copying
count_run-requires-clause-copying g c =
    (c.begin-rescue.ensures c.in-Ok.end
    (maps_read (told_by c.sample_command-command.result).options None None c.in-Ok-start_fresh.map)
    c.in-Ok-start_fresh.map.tiles.statuses c.in-Ok-start_fresh.map.state
    (sample_placed (told_by c.sample_command-command.result) c.in-Ok.end c.in-Ok.ensures.short
    c.sample_command-command.ensures.told) c.in-Ok-start_fresh.ensures.fits (c.in_ok-ready.ensures.ready None)).copying

pub count_run-requires-clause-places : goal.count_run-requires-clause-places
count_run-requires-clause-places g c =
    (c.begin-rescue.ensures c.in-Ok.end
    (maps_read (told_by c.sample_command-command.result).options None None c.in-Ok-start_fresh.map)
    c.in-Ok-start_fresh.map.tiles.statuses c.in-Ok-start_fresh.map.state
    (sample_placed (told_by c.sample_command-command.result) c.in-Ok.end c.in-Ok.ensures.short
    c.sample_command-command.ensures.told) c.in-Ok-start_fresh.ensures.fits (c.in_ok-ready.ensures.ready None)).places

pub returns : goal.returns
returns g c =
    sample_counted (told_by c.sample_command-command.result) c.in_ok-names.names c.in_ok-heading.heading.line c.in-Ok.end
    c.in-Ok-start_fresh.map c.now_ms-moment.result _ c.begin-rescue.result c.count_run.result
    (g.S.Source.state c.args.source.now) _ _ (g.K.Clock.state c.args.clock.now) _ _ c.sample_command-command.ensures.told
    (c.in_ok-names.ensures ∙ names_alike _) (ap (λ (h : HeadingLines). h.line) c.in_ok-heading.ensures) c.in-Ok-start_fresh.ensures.fresh
    (c.begin-rescue.ensures c.in-Ok.end
    (maps_read (told_by c.sample_command-command.result).options None None c.in-Ok-start_fresh.map)
    c.in-Ok-start_fresh.map.tiles.statuses c.in-Ok-start_fresh.map.state
    (sample_placed (told_by c.sample_command-command.result) c.in-Ok.end c.in-Ok.ensures.short
    c.sample_command-command.ensures.told) c.in-Ok-start_fresh.ensures.fits (c.in_ok-ready.ensures.ready None))
    (record {
      tells = c.in-Ok.ensures.call.keeps.tells;
      journal = c.in-Ok.ensures.call.journal;
      bytes = c.in-Ok.ensures.call.keeps.bytes;
      all = c.in-Ok.ensures.call.all;
    })
    c.now_ms-moment.ensures.told c.count_run.ensures
