-- What is left of the map begins with what is left of the stretch.
use Rattle.std.proofs.Common.{◌+◌, ◌∷◌, map, sym, ap, ◌∙◌, arith}
use Rattle.block_list.proofs.HeldLemmas.{stretch_within, stretches_go_on}
use Rattle.mapfile_text.specs.Printed.{block_line}
use Rattle.mapfile_text.specs.LeftOf.{map_lines}
use Rattle.mapfile_text.proofs.printer.append_rest.Goals as goal

pub overflow_add-end : goal.overflow_add-end
overflow_add-end g c =
    omega (arith, c.requires.short, stretch_within (g.T.Tiles.statuses c.args.tiles.now) c.stretch_near-stretch.result c.stretch_near-stretch.ensures.stretch)

pub returns : goal.returns
returns g c =
    let statuses = g.T.Tiles.statuses c.args.tiles.now in
    let b = c.stretch_near-stretch.result in
    ap (map block_line) (stretches_go_on statuses c.args.pos b c.stretch_near-stretch.ensures)
    ∙ ap (λ line. line ∷ map_lines (b.pos + b.size) statuses) (sym c.append_block.ensures)
