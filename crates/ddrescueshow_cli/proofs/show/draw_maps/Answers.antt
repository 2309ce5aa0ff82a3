-- What is drawn is what was read.
use Rattle.std.proofs.Common.{ap, ◌∙◌}
use Rattle.block_list.specs.Tiled.{statuses_in}
use Rattle.ddrescueshow_words.specs.Command.{told_by}
use Rattle.ddrescueshow_cli.specs.Cells.{frame_of}
use Rattle.ddrescueshow_cli.proofs.ShownLemmas.{shown_text}
use Rattle.ddrescueshow_cli.proofs.show.draw_maps.Goals as goal

pub returns : goal.returns
returns c =
    let k = told_by c.args.command.now in
    let statuses = c.args.tiles.now.statuses in
    let map = statuses_in c.args.domain_map.now in
    shown_text c.args.terminal k statuses map c.in_ok-domain.domain c.of-form.result c.of.result _ c.of-form.ensures
    (c.of.ensures.frame ∙ ap (frame_of k.options) c.end-end.ensures.end) c.in_ok-domain.ensures c.in_ok-text.ensures
